-- What a search of a family says of the numbers of a range.
use Rattle.std.specs.Prelude.{◌≡◌, ◌+◌, ◌<◌, ◌≤◌, ℕ, Option, Some, None, length, slice_get}
use Rattle.ls_families.specs.Families.{Plan, plans}
use Rattle.ls_family_search.specs.Judged.{IsHalted, IsPassed, Programs, Text, text_of}
use Rattle.ls_family_search.specs.declared.judging.Halted.{Halted}
use Rattle.ls_family_search.specs.declared.judging.Passed.{Passed}
use Rattle.ls_family_search.specs.declared.judging.Passed.TheVariants.{Cut}
use Rattle.ls_family_search.specs.declared.searching.Finding.{Finding}

-- the program of a number is passed so, in a range that begins with the first number
abbrev pub PassesAt : Programs → (Text → Type 0) → (Text → Type 0) → ℕ → ℕ → Passed → Type 0
PassesAt p IsGood IsCut from n said =
    (plan : Plan) × (slice_get (plans p.family) n ≡ Some plan) × IsPassed p IsGood IsCut from n plan said

-- the search ends with the program of a number
abbrev pub HaltsAt : {H : Type 0} → Programs → (Text → H → Type 0) → ℕ → Halted H → Type 0
HaltsAt p Halts n h = (plan : Plan) × (slice_get (plans p.family) n ≡ Some plan) × IsHalted p Halts plan h

-- so many numbers were passed: all of the range, or the next is one with which the search ends
abbrev pub EndsSo : {H : Type 0} → Programs → (Text → H → Type 0) → ℕ → ℕ → Option (Halted H) → Type 0
EndsSo p Halts next to None = next ≡ to
EndsSo p Halts next to (Some h) = HaltsAt p Halts next h

-- Of each number from the first of the range on, up to the one with which the search ends, or to the last, it is said
-- how it is passed. So no number before that one ends the search.
pub record IsFinding {H : Type 0} (p : Programs) (IsGood IsCut : Text → Type 0) (Halts : Text → H → Type 0)
    (from to : ℕ) (f : Finding H) : Type 0 where
  pub passed : (k : ℕ) (said : Passed) → slice_get f.passed.items k ≡ Some said →
      PassesAt p IsGood IsCut from (from + k) said
  pub ends : EndsSo p Halts (from + length f.passed.items) to f.halted

-- Then each program that was passed is good, doubles too, if none up to that one is cut.
abbrev pub PassedAreGood : {H : Type 0} → Programs → (Text → Type 0) → ℕ → Finding H → Type 0
PassedAreGood p IsGood from f =
    (n : ℕ) (plan : Plan) → n < length f.passed.items → slice_get (plans p.family) (from + n) ≡ Some plan →
    ((k : ℕ) → k ≤ n → slice_get f.passed.items k ≡ Some Cut → ⊥) → IsGood (text_of p plan)
