-- What is found in a range of numbers.
use Rattle.std.proofs.Common.{◌≡◌, ◌+◌, ◌<◌, ◌≤◌, ℕ, zero, suc, Bool, true, false, List, [], ◌∷◌, Option, Some}
use Rattle.std.proofs.Common.{None, length, arith, refl, slice_index_or}
use Rattle.std.specs.Prelude.{IfSome, slice_get}
use Rattle.ls_families.specs.Families.{plans}
use Rattle.ls_family_search.specs.Judged.{Programs, Text}
use Rattle.ls_family_search.specs.Searched.{EndsSo, IsFinding}
use Rattle.ls_family_search.specs.declared.judging.Halted.{Halted}
use Rattle.ls_family_search.specs.declared.searching.Finding.{Finding}

pub got_within : {X : Type 0} (xs : List X) (n : ℕ) (x : X) → slice_get xs n ≡ Some x → n < length xs
got_within [] n x got = absurd (nothing got)
  where
    nothing : None ≡ Some x → ⊥
    nothing e = cc
got_within (y ∷ xs) zero x got = omega arith
got_within (y ∷ xs) (suc n) x got = omega (arith, got_within xs n x got)

pub got_at : {X : Type 0} (xs : List X) (n : ℕ) (d : X) → n < length xs → slice_get xs n ≡ Some (slice_index_or xs n d)
got_at [] n d less = absurd (omega (arith, less))
got_at (x ∷ xs) zero d less = refl
got_at (x ∷ xs) (suc n) d less = got_at xs n d (omega (arith, less))

module _ {H : Type 0} (p : Programs) (IsGood IsCut : Text → Type 0) (Halts : Text → H → Type 0) (from to : ℕ)
    (f : Finding H) (found : IsFinding p IsGood IsCut Halts from to f) where
  -- what the search has passed ends within the family
  pub last_within : to ≤ length (plans p.family) → from + length f.passed.items ≤ length (plans p.family)
  last_within within = by_end f.halted found.ends
    where
      by_end : (h : Option (Halted H)) → EndsSo p Halts (from + length f.passed.items) to h →
          from + length f.passed.items ≤ length (plans p.family)
      by_end None ends = omega (arith, ends)
      by_end (Some h) ends = omega (arith, got_within (plans p.family) (from + length f.passed.items) ends.0 ends.1)

  pub next_under : length (plans p.family) < 18446744073709551616 →
      IfSome f.halted (λ h. from + length f.passed.items + 1 < 18446744073709551616)
  next_under few = by_end f.halted found.ends
    where
      by_end : (h : Option (Halted H)) → EndsSo p Halts (from + length f.passed.items) to h →
          IfSome h (λ h. from + length f.passed.items + 1 < 18446744073709551616)
      by_end None ends = tt
      by_end (Some h) ends =
          omega (arith, few, got_within (plans p.family) (from + length f.passed.items) ends.0 ends.1)

pub none_past : {X : Type 0} (xs : List X) (n : ℕ) → slice_get xs n ≡ None → length xs ≤ n
none_past [] n none = omega arith
none_past (x ∷ xs) zero none = absurd (something none)
  where
    something : Some x ≡ None → ⊥
    something e = cc
none_past (x ∷ xs) (suc n) none = omega (arith, none_past xs n none)

pub not_both : {b : Bool} → b ≡ true → b ≡ false → ⊥
not_both up down = cc
