-- The parts of an input.
use Rattle.std.specs.Prelude.{◌==◌, ℕ, Bool, List, [], ◌∷◌, ◌++◌, length, map, Option, Some, None, if◌then◌else◌}
use Rattle.std.specs.List.{flat_map}
use Rattle.std.specs.Str.{bytes_eq}
use Rattle.std.specs.Str.Lossy.{utf8_valid_len}

-- whether all of it is UTF-8
abbrev pub is_text : List ℕ → Bool
is_text input = utf8_valid_len input == length input

-- byte b before the first of the lines
abbrev pub onto_first : ℕ → List (List ℕ) → List (List ℕ)
onto_first b [] = (b ∷ []) ∷ []
onto_first b (l ∷ ls) = (b ∷ l) ∷ ls

-- what is between the line feeds
abbrev pub lines_of : List ℕ → List (List ℕ)
lines_of [] = [] ∷ []
lines_of (b ∷ bs) = if b == 10 then [] ∷ lines_of bs else onto_first b (lines_of bs)

-- `%%`
abbrev pub is_mark : List ℕ → Bool
is_mark l = bytes_eq l (37 ∷ 37 ∷ [])

-- the line before the first of the groups
abbrev pub into_group : List ℕ → List (List (List ℕ)) → List (List (List ℕ))
into_group l [] = (l ∷ []) ∷ []
into_group l (g ∷ gs) = (l ∷ g) ∷ gs

-- the lines between the marks
abbrev pub groups_of : List (List ℕ) → List (List (List ℕ))
groups_of [] = [] ∷ []
groups_of (l ∷ ls) = if is_mark l then [] ∷ groups_of ls else into_group l (groups_of ls)

-- lines, each with a line feed before it
abbrev pub fed : List (List ℕ) → List ℕ
fed = flat_map (λ l. 10 ∷ l)

-- lines with a line feed between two
abbrev pub part_of : List (List ℕ) → List ℕ
part_of [] = []
part_of (l ∷ ls) = l ++ fed ls

-- a part that has had these lines so far, if any, with one more line
abbrev pub grown : Option (List ℕ) → List ℕ → List ℕ
grown None l = l
grown (Some text) l = text ++ 10 ∷ l

-- the parts of a text, cut at the lines that are exactly `%%`
abbrev pub parts_of : List ℕ → List (List ℕ)
parts_of text = map part_of (groups_of (lines_of text))
