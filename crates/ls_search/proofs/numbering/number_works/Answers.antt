-- Why `number_works` in src/numbering.rt keeps its loop `thread`.

use Rattle.std.proofs.Common.{◌≡◌, Some, length, map, ap, ◌∙◌, arith, length-append, [], ◌∷◌}
use Rattle.std.specs.Prelude.{slice_get}
use Rattle.std.proofs.lemmas.Option.{slice_get_read}
use Rattle.ls_source.specs.SeenThread.{thread_of}
use Rattle.ls_transitions.specs.Seen.{table_of}
use Rattle.ls_transitions.proofs.Growing.{grows_on}
use Rattle.ls_search.proofs.Pairs.{map_there}
use Rattle.ls_search.proofs.Numbers.{numbered_more}
use Rattle.ls_search.proofs.numbering.number_works.Goals as goal

pub loop-thread-preserved : goal.loop-thread-preserved
loop-thread-preserved c =
    let inv = c.loop-thread.invariant in
    let here : slice_get c.args.threads.now c.loop-thread.thread-index ≡ Some c.thread-item.result =
    slice_get_read c.args.threads.now (length c.args.threads.now) c.loop-thread.thread-index c.thread-item.result
    (omega arith) (omega arith) c.thread-item.is in
    record {
      numbered = numbered_more (table_of c.loop-thread.transitions) (table_of c.work_number.new.self)
          c.loop-thread.works.items c.push.new.self.items (map thread_of c.args.threads.now) c.in_ok-work.work
          (thread_of c.thread-item.result) inv.numbered c.work_number.ensures.grows c.in_ok-work.ensures.number
          (ap (slice_get (map thread_of c.args.threads.now)) inv.width
          ∙ map_there thread_of c.args.threads.now c.loop-thread.thread-index c.thread-item.result here)
          c.in_ok-push.ensures.items;
      width = omega (
        arith,
        ap length c.in_ok-push.ensures.items,
        length-append c.loop-thread.works.items (c.in_ok-work.work ∷ []),
        inv.width,
      );
      grows = grows_on (table_of c.args.transitions.now) (table_of c.loop-thread.transitions)
          (table_of c.work_number.new.self) inv.grows c.work_number.ensures.grows;
    }
