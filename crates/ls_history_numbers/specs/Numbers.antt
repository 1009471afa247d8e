-- Histories by number, no two of which are the same.
use Rattle.std.specs.Prelude.{◌≡◌, ℕ, ◌<◌, List, [], ◌∷◌, ◌++◌, Some, Contains, slice_get}
use Rattle.ls_events.specs.declared.event.Event.{Event}
use Rattle.ls_history_numbers.specs.declared.numbering.Known.{Known}

-- the history of a number is this one
abbrev pub IsOf : List Known → ℕ → List Event → Type 0
IsOf all n h = (k : Known) × (slice_get all n ≡ Some k) × (k.events.items ≡ h)

-- its history is that of an earlier number, with one event more
pub record IsLonger (all : List Known) (n : ℕ) (k : Known) : Type 0 where
  pub earlier : k.before < n
  pub from : Known
  pub from_is : slice_get all k.before ≡ Some from
  pub last : Event
  pub is : k.events.items ≡ from.events.items ++ last ∷ []

-- The first has no events. Each other is an earlier one with one event more, and each has the numbers of those that are
-- so made of it. No two are the same.
pub record AreNumbered (all : List Known) : Type 0 where
  pub none : IsOf all 0 []
  pub made : (n : ℕ) (k : Known) → slice_get all n ≡ Some k → 0 < n → IsLonger all n k
  pub listed : (n : ℕ) (k p : Known) → slice_get all n ≡ Some k → 0 < n → slice_get all k.before ≡ Some p →
      Contains p.longer.items n
  pub known : (n m : ℕ) (p : Known) → slice_get all n ≡ Some p → Contains p.longer.items m →
      (k : Known) × (slice_get all m ≡ Some k) × (k.before ≡ n) × (0 < m)
  pub apart : (n m : ℕ) (k l : Known) → slice_get all n ≡ Some k → slice_get all m ≡ Some l →
      k.events.items ≡ l.events.items → n ≡ m

-- each number keeps its history, and that from which it is made
abbrev pub Keeps : List Known → List Known → Type 0
Keeps old new = (n : ℕ) (k : Known) → slice_get old n ≡ Some k →
    (l : Known) × (slice_get new n ≡ Some l) × (l.events.items ≡ k.events.items) × (l.before ≡ k.before)

-- no number has this history
abbrev pub HasNone : List Known → List Event → Type 0
HasNone all h = (n : ℕ) (k : Known) → slice_get all n ≡ Some k → k.events.items ≡ h → ⊥
