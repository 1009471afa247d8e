-- What states weigh together, by what each weighs with its path.
use Rattle.std.proofs.Common.{◌≡◌, inl, inr, ◌+◌, ◌-◌, ◌/◌, ◌≤◌, ℕ, zero, suc, List, [], ◌∷◌, Some}
use Rattle.std.proofs.Common.{length, map, take, refl, sym, ap, ◌∙◌, subst, arith}
use Rattle.std.specs.Prelude.{slice_get, sum_by}
use Rattle.std.proofs.Math.Seq.{take-length}
use Rattle.std.proofs.lemmas.List.{length-map}
use Rattle.std.proofs.lemmas.List.Sums.{sum_by-cons}
use Rattle.ls_graph.proofs.Lists.{some_is}
use Rattle.ls_labels.specs.Names.{Names}
use Rattle.ls_choices.specs.Rows.{AreLight, IsFull, most_weight, weight_of}
use Rattle.ls_choices.specs.Schedules.{told_after}
use Rattle.ls_choices.specs.Standing.{AreReached, AreWeights, Standing, StandsAt}

-- ---- what each weighs

weighs_there : (names : Names) (s : Standing) (path : List ℕ) → StandsAt names s (told_after names path) →
    length s.configuration.store.things + length path / 16 ≡ weight_of names path
weighs_there names s path h =
    ap (λ (k : Standing). length k.configuration.store.things + length path / 16) (sym h.is)

by_item : (names : Names) (states : List Standing) (paths : List (List ℕ)) (weights : List ℕ) →
    length paths ≡ length states → length weights ≡ length states →
    ((n : ℕ) (s : Standing) (path : List ℕ) → slice_get states n ≡ Some s → slice_get paths n ≡ Some path →
    StandsAt names s (told_after names path)) →
    ((n : ℕ) (s : Standing) (path : List ℕ) → slice_get states n ≡ Some s → slice_get paths n ≡ Some path →
    slice_get weights n ≡ Some (length s.configuration.store.things + length path / 16)) →
    weights ≡ map (weight_of names) paths
by_item names [] [] [] e f reached each = refl
by_item names [] [] (w ∷ weights) e f reached each = absurd (omega (arith, f))
by_item names [] (path ∷ paths) weights e f reached each = absurd (omega (arith, e))
by_item names (s ∷ states) [] weights e f reached each = absurd (omega (arith, e))
by_item names (s ∷ states) (path ∷ paths) [] e f reached each = absurd (omega (arith, f))
by_item names (s ∷ states) (path ∷ paths) (w ∷ weights) e f reached each =
    let here : w ≡ weight_of names path =
    some_is (each 0 s path refl refl) ∙ weighs_there names s path (reached 0 s path refl refl) in
    let rest = by_item names states paths weights (omega (arith, e)) (omega (arith, f))
    (λ n. reached (suc n)) (λ n. each (suc n)) in
    λ i. here i ∷ rest i

pub weights_are : (names : Names) (states : List Standing) (paths : List (List ℕ)) (weights : List ℕ) →
    AreReached names states paths → AreWeights states paths weights → weights ≡ map (weight_of names) paths
weights_are names states paths weights reached are =
    by_item names states paths weights reached.many are.many reached.each are.each

-- ---- what they weigh together

taken_alike : {A : Type 0} (f : A → ℕ) (xs : List A) (k : ℕ) →
    sum_by (λ w. w) (take k (map f xs)) ≡ sum_by f (take k xs)
taken_alike f xs zero = refl
taken_alike f [] (suc k) = refl
taken_alike f (x ∷ xs) (suc k) =
    let rest = taken_alike f xs k in
    omega (arith, sum_by-cons f x (take k xs), sum_by-cons (λ w. w) (f x) (take k (map f xs)), rest)

sums_alike : {A : Type 0} (f : A → ℕ) (xs : List A) → sum_by (λ w. w) (map f xs) ≡ sum_by f xs
sums_alike f [] = refl
sums_alike f (x ∷ xs) =
    let rest = sums_alike f xs in
    omega (arith, sum_by-cons f x xs, sum_by-cons (λ w. w) (f x) (map f xs), rest)

pub full_so : {A : Type 0} (f : A → ℕ) (most : ℕ) (xs : List A) (weights : List ℕ) → weights ≡ map f xs →
    IsFull (λ w. w) most weights → IsFull f most xs
full_so f most xs weights e (inl many) = inl (omega (arith, many, ap length e, length-map xs f))
full_so f most xs weights e (inr heavy) = inr (omega (arith, heavy, ap (sum_by (λ w. w)) e, sums_alike f xs))

pub light_so : {A : Type 0} (f : A → ℕ) (xs : List A) (weights : List ℕ) → weights ≡ map f xs →
    AreLight (λ w. w) weights → AreLight f xs
light_so f xs weights e light =
    let here : sum_by (λ w. w) (take (length (map f xs) - 1) (map f xs)) ≤ most_weight =
    subst (λ l. sum_by (λ w. w) (take (length l - 1) l) ≤ most_weight) e light in
    let same = taken_alike f xs (length xs - 1) in
    let taken : sum_by (λ w. w) (take (length xs - 1) (map f xs)) ≤ most_weight =
    subst (λ n. sum_by (λ w. w) (take (n - 1) (map f xs)) ≤ most_weight) (length-map xs f) here in
    omega (arith, taken, same)
