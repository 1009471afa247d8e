-- Numbers that stand at places, each at one, are names.
use Rattle.std.proofs.Common.{◌≡◌, ℕ, zero, suc, ◌+◌, ◌-◌, ◌<◌, ◌≤◌, ◌⊎◌, inl, inr, List, [], ◌∷◌, Option, None, Some}
use Rattle.std.proofs.Common.{length, refl, sym, ap, ◌∙◌, subst, arith}
use Rattle.std.specs.Prelude.{slice_get}
use Rattle.std.proofs.lemmas.Bool.{cases_lt}
use Rattle.std.proofs.lemmas.Option.{slice_get_past}
use Rattle.ls_meaning.specs.Renamings.{IsRenaming}
use Rattle.ls_transitions.proofs.Keeping.{below, there}
use Rattle.ls_renaming.specs.Names.{naming, number_or}
use Rattle.ls_renaming.specs.Renumbered.{ArePlaced, IsPlaced}

some_is : {A : Type 0} {x y : A} → Some x ≡ Some y → x ≡ y
some_is h = cc

-- the name of an object that has a number of its own
pub name_here : (numbers : List ℕ) (others n m : ℕ) → slice_get numbers n ≡ Some m → naming numbers others (suc n) ≡ m
name_here numbers others n m e = ap (number_or ((suc n - length numbers) + others)) e

-- the name of one that has none
pub name_past : (numbers : List ℕ) (others n : ℕ) → length numbers ≤ n →
    naming numbers others (suc n) ≡ (suc n - length numbers) + others
name_past numbers others n past =
    ap (number_or ((suc n - length numbers) + others)) (slice_get_past numbers n past)

-- what is so from a place on is so at each place
placed_at : (back numbers : List ℕ) (from place number : ℕ) → ArePlaced back from numbers →
    slice_get numbers place ≡ Some number →
    IsPlaced back (from + place) number
placed_at back [] from place number h e = cc
placed_at back (n ∷ ns) from zero number h e =
    let same : from ≡ from + 0 = omega arith in
    subst (λ k. IsPlaced back k number) same (subst (IsPlaced back from) (some_is e) h.0)
placed_at back (n ∷ ns) from (suc place) number h e =
    let same : (from + 1) + place ≡ from + suc place = omega arith in
    subst (λ k. IsPlaced back k number) same (placed_at back ns (from + 1) place number h.1 e)

module _ (numbers back : List ℕ) (others : ℕ) (count : others ≡ length back) (are : ArePlaced back 0 numbers) where
  placed : (place number : ℕ) → slice_get numbers place ≡ Some number → IsPlaced back place number
  placed place number e =
      let same : 0 + place ≡ place = omega arith in
      subst (λ k. IsPlaced back k number) same (placed_at back numbers 0 place number are e)

  -- where a name comes from
  pub data Origin (n : ℕ) : Type 0 where
    Own : (m : ℕ) (here : slice_get numbers n ≡ Some m) → Origin n
    Past : (past : length numbers ≤ n) → Origin n

  origin : (n : ℕ) → Origin n
  origin n = by_place (cases_lt n (length numbers))
    where
      by_place : (n < length numbers) ⊎ (length numbers ≤ n) → Origin n
      by_place (inl less) = let m = there numbers n less in Own m.0 m.1
      by_place (inr past) = Past past

  above : (n : ℕ) → naming numbers others (suc n) ≡ 0 → ⊥
  above n e = by_origin (origin n)
    where
      by_origin : Origin n → ⊥
      by_origin (Own m here) = omega (arith, (placed n m here).least, name_here numbers others n m here, e)
      by_origin (Past past) = omega (arith, name_past numbers others n past, past, e)

  both_own : (m n k : ℕ) → slice_get numbers m ≡ Some k → slice_get numbers n ≡ Some k → m ≡ n
  both_own m n k e f =
      let is : m + 1 ≡ n + 1 = some_is (sym (placed m k e).here ∙ (placed n k f).here) in
      omega (arith, is)

  same_origin : (m n : ℕ) → Origin m → Origin n →
      naming numbers others (suc m) ≡ naming numbers others (suc n) →
      m ≡ n
  same_origin m n (Own k e) (Own l f) same =
      let is : l ≡ k = sym (name_here numbers others n l f) ∙ sym same ∙ name_here numbers others m k e in
      both_own m n k e (f ∙ ap Some is)
  same_origin m n (Own k e) (Past past) same =
      absurd (omega (
        arith,
        (placed m k e).most,
        count,
        name_here numbers others m k e,
        name_past numbers others n past,
        past,
        same,
      ))
  same_origin m n (Past past) (Own k e) same =
      absurd (omega (
        arith,
        (placed n k e).most,
        count,
        name_here numbers others n k e,
        name_past numbers others m past,
        past,
        same,
      ))
  same_origin m n (Past past) (Past later) same =
      omega (arith, name_past numbers others m past, name_past numbers others n later, past, later, same)

  apart : (m n : ℕ) → naming numbers others m ≡ naming numbers others n → m ≡ n
  apart zero zero e = refl
  apart zero (suc n) e = absurd (above n (sym e))
  apart (suc m) zero e = absurd (above m e)
  apart (suc m) (suc n) e = ap suc (same_origin m n (origin m) (origin n) e)

  -- the names are those of a renaming
  pub names_apart : IsRenaming (λ n. naming numbers others n)
  names_apart = record { null = refl; apart = apart }
