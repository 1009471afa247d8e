-- Why `table_of` in src/tabling.rt keeps its loop `steps`.

use Rattle.std.proofs.Common.{◌≡◌, ◌<◌, ◌++◌, ◌∷◌, [], List, length, slice_get, ap, arith, subst, sym, ◌∙◌}
use Rattle.ls_source_judge.specs.Stepped.{AreSteps, AreStepsOf, pairs_in}
use Rattle.ls_source_judge.specs.declared.tabling.Pairs.{Pairs}
use Rattle.ls_source_judge.proofs.Steps.{same_get, some_known, steps_more, steps_none}
use Rattle.ls_source_judge.proofs.tabling.table_of.Goals as goal

pub loop-steps-init : goal.loop-steps-init
loop-steps-init c =
    let first : Pairs = record { pairs = c.args.first } in
    let is : c.push-2.new.self.items ≡ first ∷ [] =
    c.in_ok-push-2.ensures.items ∙ ap (λ l. l ++ first ∷ []) c.new-known.ensures.items in
    record {
      some = subst (λ l. 0 < length l) (sym is) (omega arith);
      steps = subst (AreSteps c.args.rows.now c.push-2.new.self.items) (sym c.new-steps.ensures.items)
          (steps_none c.args.rows.now c.push-2.new.self.items);
      first = ap (λ l. pairs_in (slice_get l 0)) is;
    }

pub loop-steps-preserved : goal.loop-steps-preserved
loop-steps-preserved c =
    let old : List Pairs = c.loop-steps.known.items in
    let new : List Pairs = c.steps_from.new.known.items in
    let last : c.len-at.result ≡ length c.loop-steps.steps.items = omega arith in
    record {
      some = some_known c.args.rows.now old new c.in_ok-row.ensures.grows c.loop-steps.invariant.some;
      steps = subst (AreSteps c.args.rows.now new) (sym c.in_ok-push-3.ensures.items)
          (steps_more c.args.rows.now old new c.loop-steps.steps.items c.in_ok-row.row c.in_ok-row.ensures.grows
          c.loop-steps.invariant.steps
          (subst (λ n. AreStepsOf c.args.rows.now new n c.in_ok-row.row.items) last
          c.in_ok-row.ensures.steps));
      first = ap pairs_in
          (same_get old new 0 c.in_ok-row.ensures.grows c.loop-steps.invariant.some) ∙ c.loop-steps.invariant.first;
    }
