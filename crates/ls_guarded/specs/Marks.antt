-- Sets of methods, as a mark for each number.
use Rattle.std.specs.Prelude.{◌≡◌, ℕ, Bool, true, false, List, Option, Some, None, slice_get, [], ◌∷◌}
use Rattle.ls_guarded.specs.declared.marks.Callees.{Callees}

abbrev pub mark_in : Option Bool → Bool
mark_in None = false
mark_in (Some b) = b

-- whether a method is marked
abbrev pub marked : List Bool → ℕ → Bool
marked marks m = mark_in (slice_get marks m)

-- a method is marked
abbrev pub IsMarked : List Bool → ℕ → Type 0
IsMarked marks m = marked marks m ≡ true

-- P of each of the numbers
abbrev pub EachOf : (ℕ → Type 0) → List ℕ → Type 0
EachOf P [] = Unit {0}
EachOf P (m ∷ ms) = P m × EachOf P ms

-- the methods that bodies may call: on anything, on `this`, on other objects
abbrev pub OnAny : Callees → ℕ → Type 0
OnAny c = IsMarked c.all.items

-- on `this`
abbrev pub OnThis : Callees → ℕ → Type 0
OnThis c = IsMarked c.own.items

-- on other objects
abbrev pub OnOthers : Callees → ℕ → Type 0
OnOthers c = IsMarked c.others.items
