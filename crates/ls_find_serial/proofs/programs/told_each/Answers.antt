-- Why `told_each` in src/programs.rt keeps its contract.

use Rattle.std.proofs.Common.{◌∙◌, IfOk, subst}
use Rattle.std.specs.List.{AllZip}
use Rattle.rayon.proofs.ListFacts.{IfOk-then}
use Rattle.rayon.specs.Numbers.{nat_range}
use Rattle.ls_find_serial.specs.Told.{IsToldAt}
use Rattle.ls_find_serial.proofs.programs.told_each.Goals as goal

pub returns : goal.returns
returns g c =
    let ends = c.into_par_iter.ensures in
    IfOk-then c.collect.result _ _ c.collect.ensures (λ v h.
    let chain = rw (c.map.ensures.base, c.map.ensures.f, c.with_min_len.ensures.base) at h.1 in
    let places = chain.1 ∙ (λ i. nat_range (ends.0 i) (ends.1 i)) in
    rw h.2 (subst (λ ns. AllZip
    (λ n o. IfOk o (IsToldAt c.args.classes.now c.args.programs.now n)) ns h.0) places chain.2))
