-- Whether a label has a text.
use Rattle.std.specs.Prelude.{◌||◌, ℕ, Bool, List, [], ◌∷◌, length, take}
use Rattle.std.specs.Str.{bytes_eq}

abbrev pub begins : List ℕ → List ℕ → Bool
begins text label = bytes_eq (take (length text) label) text

-- it stands somewhere in it
abbrev pub has_text : List ℕ → List ℕ → Bool
has_text text [] = begins text []
has_text text (b ∷ bs) = begins text (b ∷ bs) || has_text text bs
