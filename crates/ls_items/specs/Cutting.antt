-- The parts of an input, line by line.
use Rattle.std.specs.Prelude.{◌≡◌, ℕ, List, [], ◌∷◌, ◌++◌, length, map, Option, Some, None}
use denote.Ref.{Bor}
use Rattle.ls_items.specs.Parts.{fed, part_of}

-- the parts of groups; the first part goes on from what it had so far
abbrev pub open_with : Option (List ℕ) → List (List (List ℕ)) → List (List ℕ)
open_with None gs = map part_of gs
open_with (Some text) [] = text ∷ []
open_with (Some text) (g ∷ gs) = (text ++ fed g) ∷ map part_of gs

-- the text that is borrowed
abbrev pub plain_text : Bor (List ℕ) → List ℕ
plain_text borrowed = borrowed.now

-- The text from where the open part begins, how far that part goes so far, and the rest. The part has had these lines
-- so far, if any, and the rest comes after them.
abbrev pub IsOpen : List ℕ → ℕ → List ℕ → Option (List ℕ) → Type 0
IsOpen from len rest None = (from ≡ rest) × (len ≡ 0)
IsOpen from len rest (Some text) = (from ≡ text ++ 10 ∷ rest) × (len ≡ length text)
