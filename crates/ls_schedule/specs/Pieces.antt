-- The words and parentheses of a schedule text, and its version.
use Rattle.std.specs.Prelude.{◌==◌, ◌&&◌, ◌||◌, ◌+◌, ℕ, Bool, true, false, not, List, [], ◌∷◌, Option, Some, None}
use Rattle.std.specs.Prelude.{if◌then◌else◌, codes}
use Rattle.std.specs.Str.{bytes_eq}
use Rattle.ls_items.specs.Items.{is_gap}

-- gaps and parentheses end a word
abbrev pub ends_word : ℕ → Bool
ends_word b = is_gap b || (b == 40 || b == 41)

-- What a text is made of, with the places where it begins. The word directly after a closing parenthesis belongs to
-- that.
pub data Piece : Type 0 where
  Gap : Piece
  Word : (at : ℕ) → (bytes : List ℕ) → Piece
  Opens : (at : ℕ) → Piece
  Closes : (at : ℕ) → (after : List ℕ) → Piece

-- b at this place, before what follows it
abbrev pub with_byte : ℕ → ℕ → List Piece → List Piece
with_byte at b (Word next bytes ∷ ps) = Word at (b ∷ bytes) ∷ ps
with_byte at b ps = Word at (b ∷ []) ∷ ps

abbrev pub closing : ℕ → List Piece → List Piece
closing at (Word next bytes ∷ ps) = Closes at bytes ∷ ps
closing at ps = Closes at [] ∷ ps

-- the pieces of a text that begins at this place
abbrev pub pieces : ℕ → List ℕ → List Piece
pieces at [] = []
pieces at (b ∷ bs) =
    if is_gap b then Gap ∷ pieces (at + 1) bs
    else if b == 40 then Opens at ∷ pieces (at + 1) bs
    else if b == 41 then closing at (pieces (at + 1) bs)
    else with_byte at b (pieces (at + 1) bs)

-- whether a group begins here
abbrev pub opens : List Piece → Bool
opens (Opens at ∷ ps) = true
opens ps = false

-- what follows the first item, where that is `@2`: then the text has version 2
abbrev pub second_version : List Piece → Option (List Piece)
second_version (Gap ∷ ps) = second_version ps
second_version (Word at bytes ∷ ps) = if bytes_eq bytes (codes "@2") && not (opens ps) then Some ps else None
second_version ps = None
