-- Why `lost_at` in src/following.rt keeps its clause `some` and its loop `at`.

use Rattle.std.proofs.Common.{◌∙◌, ap, sym}
use Rattle.ls_automaton.specs.Held.{helds_of, leaves_none}
use Rattle.ls_linearizable.specs.Judging.{now}
use Rattle.ls_source_judge.proofs.Steps.{none_left}
use Rattle.ls_linearity.proofs.Left.{one_more}
use Rattle.ls_linearity.proofs.following.lost_at.Goals as goal

pub returns-then-is_empty-clause-some : goal.returns-then-is_empty-clause-some
returns-then-is_empty-clause-some c = record {
  within = c.loop-at-test.true;
  before = c.loop-at.invariant.left;
  with_it =
      ap now (sym (one_more c.args.rows.now c.args.history.now c.loop-at.at _ c.as_slice.result.now
      c.in_ok-left.left.items c.loop-at-test.true
      (ap (λ p. leaves_none c.args.rows.now (helds_of p)) c.as_slice.ensures.value ∙ c.loop-at.invariant.far)
      c.in_ok-left.ensures.left))
      ∙ ap (λ p. now (leaves_none c.args.rows.now (helds_of p))) (sym c.as_slice-rest.ensures.value)
      ∙ sym (none_left c.args.rows.now c.as_slice-rest.result.now) ∙ sym c.is_empty.ensures ∙ c.if-is_empty.true;
}

pub loop-at-preserved : goal.loop-at-preserved
loop-at-preserved c =
    let more = one_more c.args.rows.now c.args.history.now c.loop-at.at _ c.as_slice.result.now
    c.in_ok-left.left.items c.loop-at-test.true
    (ap (λ p. leaves_none c.args.rows.now (helds_of p)) c.as_slice.ensures.value ∙ c.loop-at.invariant.far)
    c.in_ok-left.ensures.left in
    record {
      far = more;
      left = ap now (sym more) ∙ ap (λ p. now (leaves_none c.args.rows.now (helds_of p)))
          (sym c.as_slice-rest.ensures.value)
          ∙ sym (none_left c.args.rows.now c.as_slice-rest.result.now) ∙ sym c.is_empty.ensures ∙ c.if-is_empty.false;
    }
