-- Why `outcomes_of` in src/windows.rt keeps its contract.

use Rattle.std.proofs.Common.{◌∙◌, IfOk, subst}
use Rattle.std.specs.List.{AllZip}
use Rattle.rayon.proofs.ListFacts.{IfOk-then}
use Rattle.rayon.specs.Numbers.{nat_range}
use Rattle.ls_family_search.specs.Windows.{IsOutcomeAt}
use Rattle.ls_family_search.proofs.windows.outcomes_of.Goals as goal

pub returns : goal.returns
returns g c =
    let ends = c.into_par_iter.ensures in
    IfOk-then c.collect.result _ _ c.collect.ensures (λ v h.
    let chain = rw (c.map.ensures.base, c.map.ensures.f, c.with_min_len.ensures.base) at h.1 in
    let places = chain.1 ∙ (λ i. nat_range (ends.0 i) (ends.1 i)) in
    rw h.2 (subst (λ ns. AllZip
    (λ n o. IfOk o (IsOutcomeAt c.args.programs.now (g.J.Judge.IsGood c.args.judge.now)
    (g.J.Judge.IsCut c.args.judge.now)
    (g.J.Judge.Halts c.args.judge.now) c.args.first n)) ns h.0) places chain.2))
