-- Why `excused_of` in src/excusing.rt keeps its loop `at`.

use Rattle.std.proofs.Common.{◌∙◌, ◌+◌, Some, ap, arith, slice_get, subst, sym}
use Rattle.ls_serial.proofs.Lists.{is_get}
use Rattle.ls_serial_search.specs.Histories.{lists_of}
use Rattle.ls_endless_calls.specs.Waits.{AreExcused}
use Rattle.ls_endless_calls.proofs.Excused.{marked_more, push_length}
use Rattle.ls_endless_calls.proofs.excusing.excused_of.Goals as goal

pub loop-at-preserved : goal.loop-at-preserved
loop-at-preserved c =
    let at = is_get c.args.histories.now c.loop-at.at c.index-histories-at.result
    (omega (arith, c.loop-at-test.true)) ∙ ap Some (sym c.index-histories-at.is) in
    record {
      many = push_length c.loop-at.excused.items c.push.new.self.items c.is_excused.result c.in_ok-push.ensures.items ∙
          ap (λ n. n + 1) c.loop-at.invariant.many;
      marked = marked_more (lists_of c.args.runs.now) c.args.histories.now c.loop-at.excused.items
          c.push.new.self.items c.is_excused.result c.index-histories-at.result c.loop-at.invariant.marked
          c.in_ok-push.ensures.items
          (ap (slice_get c.args.histories.now) c.loop-at.invariant.many ∙ at)
          (λ so. subst (AreExcused (lists_of c.args.runs.now)) c.as_slice.ensures.value (c.is_excused.ensures so));
    }
