-- Why `judge_rows_like` in src/likeness.rt keeps its loop `at` and what `below` requires.

use Rattle.std.proofs.Common.{◌≡◌, ◌++◌, ◌∷◌, ◌∙◌, [], List, ap, refl, string_bytes, subst, sym}
use Rattle.ls_checked.specs.CheckedTree.{File}
use Rattle.ls_checked.specs.CheckedProgram.{Program}
use Rattle.ls_events.specs.declared.event.Event.{Event}
use Rattle.ls_explore.specs.Rows.{Told}
use Rattle.ls_linearity.specs.Meant.{IsMeant}
use Rattle.ls_linearizable.specs.Once.{AreOnce}
use Rattle.ls_specification.specs.Specification.{spec_file, spec_program}
use Rattle.ls_explore_reports.specs.Below.{HasNames, IsBelow}
use Rattle.ls_explore_reports.specs.Judged.{IsToldBelowLike, Judged, SaysNoSet}
use Rattle.ls_explore_reports.proofs.Known.{all_more, judged_more}
use Rattle.ls_explore_reports.proofs.likeness.judge_rows_like.Goals as goal

pub below-requires : goal.below-requires
below-requires c =
    (c.args.orders, spec_file c.args.specification, spec_program c.args.specification, c.loop-at.invariant.runs)

pub loop-at-preserved : goal.loop-at-preserved
loop-at-preserved c =
    let file : File = spec_file c.args.specification in
    let program : Program = spec_program c.args.specification in
    let rows = c.args.rows.now in
    let is = subst (λ (x : Judged). c.push.new.self.items ≡ c.loop-at.judged.items ++ x ∷ []) c.new.ensures
    c.in_ok-push.ensures.items in
    record {
      judges = c.loop-at.invariant.judges;
      runs = c.loop-at.invariant.runs;
      rows = judged_more c.loop-at.judged.items c.push.new.self.items _ rows c.loop-at.at is c.loop-at-test.true
          c.index-rows-at.is c.loop-at.invariant.rows;
      linear = all_more (λ (j : Judged). IsMeant file program j.row.history j.linearity) c.loop-at.judged.items
          c.push.new.self.items _ is c.loop-at.invariant.linear
          (subst (λ (h : List Event). IsMeant file program h c.in_ok-linearity.linearity)
          c.history-history.ensures (c.in_ok-linearity.ensures file program c.loop-at.invariant.judges
          (subst AreOnce (sym (c.history-history.ensures ∙ ap (λ (r : Told). r.history) c.index-rows-at.is))
          (c.requires c.loop-at.at c.index-rows-at.result c.loop-at-test.true))));
      sets = all_more SaysNoSet c.loop-at.judged.items c.push.new.self.items _ is c.loop-at.invariant.sets refl;
      below = all_more (IsToldBelowLike c.args.orders file program) c.loop-at.judged.items c.push.new.self.items _ is
          c.loop-at.invariant.below
          (subst (λ (h : List Event). HasNames program h →
          IsBelow c.args.orders file program h (string_bytes c.in_ok-below.below)) c.history-history.ensures
          (λ named. c.in_ok-below.ensures c.args.orders file program c.loop-at.invariant.runs named));
    }
