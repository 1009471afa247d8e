-- If a step is refused, all that comes after it is refused.
use Rattle.std.proofs.Common.{◌≡◌, ℕ, suc, ◌<◌, List, map, length, get_or, drop, drop-cons, ap, sym, ◌∙◌}
use Rattle.ls_types_elaboration.specs.declared.rule.CheckFault.{CheckFault}
use Rattle.ls_types_elaboration.specs.declared.rule.CheckFault.TheVariants as faults
use Rattle.ls_types_elaboration.specs.Elaborated.{Elaborated, with_ok, each}
use Rattle.ls_types_elaboration.specs.Refused.{Fails}

-- if the first step fails, so do both
pub fails_on : {X Y : Type 0} (e : CheckFault) (said : Elaborated X) (go : X → Elaborated Y) →
    Fails e said →
    Fails e (with_ok said go)
fails_on faults.Memory said go h = tt
fails_on (faults.Broken b) said go h = ap (λ s. with_ok s go) h

pub fails_so : {X : Type 0} (e : CheckFault) (said all : Elaborated X) → said ≡ all → Fails e said → Fails e all
fails_so faults.Memory said all same h = tt
fails_so (faults.Broken b) said all same h = sym same ∙ h

-- a step that is refused in the midst of all
pub fails_within : {S A T : Type 0} (step : S → A → Elaborated S) (view : T → A) (xs : List T) (i : ℕ) (x : T) (s : S)
    (all : Elaborated S) (e : CheckFault)
    → i < length xs → x ≡ get_or xs i x → each step s (map view (drop i xs)) ≡ all → Fails e (step s (view x)) →
    Fails e all
fails_within {S} {A} {T} step view xs i x s all e low is same h =
    let rest : T → Elaborated S = λ y. with_ok (step s (view y)) (λ n. each step n (map view (drop (suc i) xs))) in
    let k : each step s (map view (drop i xs)) ≡ rest x = ap (λ l. each step s (map view l)) (drop-cons xs i x low) ∙
    ap rest (sym is) in
    fails_so e (rest x) all (sym k ∙ same) (fails_on e (step s (view x)) (λ n. each step n (map view (drop (suc i) xs)))
    h)
