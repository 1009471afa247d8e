-- What a search that has gone through a range, or a whole family, says of each program.
use Rattle.std.proofs.Common.{◌≡◌, ◌∙◌, ◌+◌, ◌<◌, Some, ap, arith, length, subst, sym}
use Rattle.std.specs.Prelude.{slice_get}
use Rattle.std.proofs.lemmas.Option.{slice_get-get_or}
use Rattle.ls_families.specs.Belonging.{EachBelongs}
use Rattle.ls_families.specs.Families.{Family, Plan, plans}
use Rattle.ls_family_search.specs.Searched.{EndsSo}
use Rattle.ls_family_search.proofs.Passing.{passed_good}
use Rattle.ls_find.specs.Family.{EachIsSound, EachPassedIsSound}
use Rattle.ls_find.specs.Found.{IsCut, IsSound, IsWhy}

pub each_passed_sound : EachPassedIsSound
each_passed_sound sought states specification classes p from to f found =
    passed_good p (IsSound sought specification classes) (IsCut sought states specification classes)
    from f.passed.items found.passed

pub each_sound : EachBelongs → EachPassedIsSound → EachIsSound
each_sound belongs passed z b sought states specification classes p f some calls family whole plan is =
    let many : 0 + length f.passed.items ≡ length (plans p.family) =
    subst (EndsSo p (IsWhy sought specification classes) (0 + length f.passed.items) (length (plans p.family)))
    whole.none
    whole.found.ends in
    let at = (belongs z b plan some calls).1 is in
    let n = at.0 in
    let within : n < length (plans p.family) = subst (λ (g : Family). n < length (plans g)) (sym family) at.1 in
    let there : slice_get (plans p.family) n ≡ Some plan =
    subst (λ (g : Family). slice_get (plans g) n ≡ Some plan) (sym family)
    (slice_get-get_or _ n plan at.1 ∙ ap (λ (q : Plan). Some q) at.2) in
    let zero_more : n ≡ 0 + n = omega arith in
    passed sought states specification classes p 0 (length (plans p.family)) f whole.found n plan
    (omega (arith, many, within))
    (subst (λ m. slice_get (plans p.family) m ≡ Some plan) zero_more there) (λ k up. whole.uncut k)
