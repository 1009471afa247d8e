-- Lines of words in a text.
use Rattle.std.specs.Prelude.{◌≡◌, ◌==◌, ◌+◌, ◌&&◌, ℕ, Bool, List, [], ◌∷◌, map, nat_lt, take, if◌then◌else◌, length}
use Rattle.std.specs.Prelude.{string_bytes}
use Rattle.std.specs.List.{count_by}
use Rattle.ls_java_lexer.specs.declared.token.Token.{Token}
use Rattle.ls_java_output.specs.Places.{AreInOrder}
use Rattle.ls_java_output.specs.declared.kept.KeptPage.{KeptPage}
use Rattle.ls_java_output.specs.declared.place.Place.{Place}

abbrev pub is_feed : ℕ → Bool
is_feed byte = byte == 10

-- how many lines end in a text
abbrev pub ends_in : List ℕ → ℕ
ends_in text = count_by is_feed text

-- and before a byte of it
abbrev pub ends_before : ℕ → List ℕ → ℕ
ends_before at text = ends_in (take at text)

-- the line of each token of a file, from 1
abbrev pub lines_of : List ℕ → List Token → List ℕ
lines_of java tokens = map (λ t. 1 + ends_before t.start java) tokens

-- So many lines end before a word, where so many end before the end of the word before it. It goes to the line of its
-- token, if it is one that does and that line comes later, and else it stays.
abbrev pub line_of_word : List ℕ → ℕ → ℕ → Bool → ℕ
line_of_word java here at goes = if goes && nat_lt here (ends_before at java) then ends_before at java else here

-- each word stands on that line
abbrev pub AreOnLines : List ℕ → List ℕ → ℕ → List Place → Type 0
AreOnLines java text here [] = Unit {0}
AreOnLines java text here (p ∷ ps) =
    (ends_before p.start text ≡ line_of_word java here p.at p.goes) × AreOnLines java text (ends_before p.end text) ps

-- how many lines end before the end of the last word
abbrev pub last_line : List ℕ → ℕ → List Place → ℕ
last_line text here [] = here
last_line text here (p ∷ ps) = last_line text (ends_before p.end text) ps

-- The words of a page are in order and on their lines. `line` counts the lines of the text, and `here` those before
-- the end of the last word.
pub record IsKept (java : List ℕ) (tokens : ℕ) (page : KeptPage) : Type 0 where
  pub line : page.line ≡ ends_in (string_bytes page.text)
  pub order : AreInOrder tokens 0 page.places.items (length (string_bytes page.text))
  pub lines : AreOnLines java (string_bytes page.text) 0 page.places.items
  pub here : page.here ≡ last_line (string_bytes page.text) 0 page.places.items
