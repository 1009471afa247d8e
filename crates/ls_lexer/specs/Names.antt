-- Names of classes, members, threads and the like.
use Rattle.std.specs.Prelude.{ℕ, ◌==◌, ◌&&◌, Bool, false, List, [], ◌∷◌, length, is_none, IsTrue}
use Rattle.ls_lexer.specs.Characters.{is_letter, is_part, run}
use Rattle.ls_lexer.specs.Words.{reserved_word}

-- letters and digits that don't begin with a digit (JLS 3.8)
abbrev pub is_identifier : List ℕ → Bool
is_identifier [] = false
is_identifier (b ∷ bs) = is_letter b && (run is_part bs == length bs)

-- an identifier that is not a reserved word
unfoldable pub is_name : List ℕ → Bool
is_name text = is_identifier text && is_none (reserved_word text)

abbrev pub IsName : List ℕ → Type 0
IsName text = IsTrue (is_name text)
