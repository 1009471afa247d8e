-- The items of a text: what is between gaps.
use Rattle.std.specs.Prelude.{◌≡◌, ◌↔◌, ◌==◌, ◌||◌, ◌+◌, ℕ, Bool, true, false, List, [], ◌∷◌, ◌++◌, length}
use Rattle.std.specs.Prelude.{if◌then◌else◌}

-- space, tab, CR and LF
abbrev pub is_gap : ℕ → Bool
is_gap b = b == 32 || (b == 9 || (b == 13 || b == 10))

-- a place, and the bytes from there to the next gap
abbrev pub Item : Type 0
Item = ℕ × List ℕ

-- byte b at this place, before the first of the items
abbrev pub joined : ℕ → ℕ → List Item → List Item
joined at b [] = (at, b ∷ []) ∷ []
joined at b (i ∷ is) = (at, b ∷ i.1) ∷ is

-- byte b is no gap; the bytes bs follow b, and have these items
abbrev pub with_byte : ℕ → ℕ → List ℕ → List Item → List Item
with_byte at b [] is = (at, b ∷ []) ∷ is
with_byte at b (c ∷ cs) is = if is_gap c then (at, b ∷ []) ∷ is else joined at b is

-- the items of a text that begins at this place
abbrev pub items : ℕ → List ℕ → List Item
items at [] = []
items at (b ∷ bs) =
    if is_gap b then items (at + 1) bs else with_byte at b bs (items (at + 1) bs)

-- ---- the same as a relation

abbrev pub HasNoGap : List ℕ → Type 0
HasNoGap [] = Unit {0}
HasNoGap (b ∷ bs) = (is_gap b ≡ false) × HasNoGap bs

-- at the end of the text, or before a gap
abbrev pub EndsItem : List ℕ → Type 0
EndsItem [] = Unit {0}
EndsItem (b ∷ bs) = is_gap b ≡ true

-- the text, which begins at a place, is gaps and these items with their places
pub data Divides : ℕ → List ℕ → List Item → Type 0 where
  ends : {at : ℕ} → Divides at [] []
  gap : {at : ℕ} {bs : List ℕ} {is : List Item} (b : ℕ) →
      is_gap b ≡ true →
      Divides (at + 1) bs is →
      Divides at (b ∷ bs) is
  item : {at : ℕ} {rest : List ℕ} {is : List Item} (b : ℕ) (w : List ℕ) → HasNoGap (b ∷ w) → EndsItem rest
      → Divides (at + length (b ∷ w)) rest is → Divides at (b ∷ w ++ rest) ((at, b ∷ w) ∷ is)

-- A text has the items into which gaps divide it.
abbrev pub ItemsAreDivided : Type 0
ItemsAreDivided = (at : ℕ) (text : List ℕ) (is : List Item) → (items at text ≡ is) ↔ Divides at text is
