-- What is so of each element of a list, place by place.
use Rattle.std.proofs.Common.{◌≡◌, ◌⊎◌, ◌∙◌, inl, inr, ℕ, ◌+◌, ◌<◌, ◌≤◌, List, Some, Contains, length, slice_get, arith}
use Rattle.std.proofs.Common.{[], ◌∷◌, zero, suc, None, sym, subst, ap}
use Rattle.std.specs.declared.vec.Vec.{Vec}
use Rattle.std.specs.declared.alloc.Global.{Global}
use Rattle.ls_events.specs.declared.event.Event.{Event}
use Rattle.ls_events.specs.declared.event.Happening.TheVariants.{Called}
use Rattle.ls_serial_search.specs.Histories.{lists_of}
use Rattle.std.proofs.lemmas.Bool.{cases_lt}
use Rattle.ls_serial.proofs.Lists.{contains_get, get_within, some_is}

-- an event that stands where there is none
abbrev pub no_event : Event
no_event = record { thread = 0; call = 0; happening = Called }

-- so it is of the elements before a place
abbrev pub AreSo : {X : Type 0} → List X → (ℕ → X → Type 0) → ℕ → Type 0
AreSo {X} xs P n = (k : ℕ) (y : X) → k < n → slice_get xs k ≡ Some y → P k y

pub none_so : {X : Type 0} (xs : List X) (P : ℕ → X → Type 0) → AreSo xs P 0
none_so xs P k y less = absurd (omega (arith, less))

pub one_so : {X : Type 0} (xs : List X) (P : ℕ → X → Type 0) (n : ℕ) (x : X) → slice_get xs n ≡ Some x →
    AreSo xs P n → P n x → AreSo xs P (n + 1)
one_so {X} xs P n x at before here k y less there = by_place (cases_lt k n)
  where
    by_place : (k < n) ⊎ (n ≤ k) → P k y
    by_place (inl lt) = before k y lt there
    by_place (inr past) =
        let same : n ≡ k = omega (arith, less, past) in
        let one : x ≡ y = some_is (sym at ∙ ap (slice_get xs) same ∙ there) in
        subst (λ z. P k z) one (subst (λ m. P m x) same here)

-- where the list ends before the place, so it is of each
pub all_so : {X : Type 0} (xs : List X) (P : ℕ → X → Type 0) (n : ℕ) → length xs ≤ n → AreSo xs P n → (k : ℕ) (y : X) →
    slice_get xs k ≡ Some y → P k y
all_so xs P n past are k y there = are k y (omega (arith, past, get_within xs k y there)) there

pub each_so : {X : Type 0} (xs : List X) (Q : X → Type 0) (n : ℕ) → length xs ≤ n → AreSo xs (λ k y. Q y) n → (y : X) →
    Contains xs y → Q y
each_so xs Q n past are y there =
    let at = contains_get xs y there in
    are at.0 y (omega (arith, past, get_within xs at.0 y at.1)) at.1

-- one of some lists at its place
pub get_list : (vs : List (Vec Event Global)) (i : ℕ) (v : Vec Event Global) → slice_get vs i ≡ Some v →
    slice_get (lists_of vs) i ≡ Some v.items
get_list [] zero v at = absurd (nothing at)
  where
    nothing : None ≡ Some v → ⊥
    nothing e = cc
get_list [] (suc i) v at = absurd (nothing at)
  where
    nothing : None ≡ Some v → ⊥
    nothing e = cc
get_list (w ∷ vs) zero v at = ap (λ (z : Vec Event Global). Some z.items) (some_is at)
get_list (w ∷ vs) (suc i) v at = get_list vs i v at
