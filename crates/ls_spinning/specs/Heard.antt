-- States from which steps lead to where an event comes.
use Rattle.std.specs.Prelude.{◌≡◌, ℕ, Bool, true, List, [], ◌∷◌, Some, slice_get}
use Rattle.ls_graph.specs.declared.closing.Edge.{Edge}

module _ (loud : List Bool) (edges : List Edge) where
  -- the edges of these numbers lead from one state to the next, and the last is marked
  abbrev pub HeardAlong : ℕ → List ℕ → Type 0
  HeardAlong at [] = slice_get loud at ≡ Some true
  HeardAlong at (i ∷ path) = (e : Edge) × (slice_get edges i ≡ Some e) × (e.from ≡ at) × HeardAlong e.to path

  abbrev pub IsHeard : ℕ → Type 0
  IsHeard at = (path : List ℕ) × HeardAlong at path

  -- so it is of each that has one of these marks
  abbrev pub AreHeard : List Bool → Type 0
  AreHeard marks = (at : ℕ) → slice_get marks at ≡ Some true → IsHeard at

  -- so it is of each state from which an edge leads
  abbrev pub EachIsHeard : Type 0
  EachIsHeard = (i : ℕ) (e : Edge) → slice_get edges i ≡ Some e → IsHeard e.from
