-- The places of exits, by their sizes.
use Rattle.std.specs.Prelude.{ℕ, ◌+◌, List, [], ◌∷◌}
use Rattle.ls_emit.specs.Statements.{Targets}

-- how many instructions exits of these sizes have, each after a jump; where they begin, and after them the end
abbrev pub room : List ℕ → ℕ
room [] = 0
room (n ∷ ns) = 1 + n + room ns

abbrev pub places_by : ℕ → List ℕ → Targets
places_by p [] = p ∷ []
places_by p (n ∷ ns) = (p + 1) ∷ places_by (p + 1 + n) ns
