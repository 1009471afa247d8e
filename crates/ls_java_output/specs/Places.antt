-- Places of words in a text.
use Rattle.std.specs.Prelude.{ℕ, ◌≤◌, ◌<◌, List, [], ◌∷◌}
use Rattle.ls_java_output.specs.declared.place.Place.{Place}

-- The places follow one another from one byte up to another. Each comes from one of so many tokens.
abbrev pub AreInOrder : ℕ → ℕ → List Place → ℕ → Type 0
AreInOrder tokens from [] upto = from ≤ upto
AreInOrder tokens from (p ∷ ps) upto =
    (from ≤ p.start) × (p.start ≤ p.end) × (p.token < tokens) × AreInOrder tokens p.end ps upto
