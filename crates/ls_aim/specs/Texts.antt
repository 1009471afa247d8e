-- The items of a text with targets.
use Rattle.std.specs.Prelude.{◌==◌, ◌&&◌, ◌+◌, ◌-◌, ℕ, zero, suc, Bool, true, false, not, List, [], ◌∷◌, take}
use Rattle.std.specs.Prelude.{if◌then◌else◌, codes}
use Rattle.std.specs.Str.{bytes_eq}
use Rattle.ls_items.specs.Items.{Item, is_gap}

-- how many bytes stand before the first gap that is not between double quotes
abbrev pub word_len : Bool → List ℕ → ℕ
word_len quoted [] = 0
word_len quoted (b ∷ bs) =
    if is_gap b && not quoted then 0 else 1 + word_len (if b == 34 then not quoted else quoted) bs

-- how many parentheses are open after a byte
abbrev pub depth_after : ℕ → ℕ → ℕ
depth_after depth b = if b == 40 then depth + 1 else if b == 41 then depth - 1 else depth

-- how many bytes stand before the first gap that is in no parentheses
abbrev pub group_len : ℕ → List ℕ → ℕ
group_len depth [] = 0
group_len depth (b ∷ bs) = if is_gap b && (depth == 0) then 0 else 1 + group_len (depth_after depth b) bs

abbrev pub opens_group : List ℕ → Bool
opens_group [] = false
opens_group (b ∷ bs) = b == 40

-- how many bytes the item has with which a text begins
abbrev pub item_len : List ℕ → ℕ
item_len text = if opens_group text then group_len 0 text else word_len false text

-- the items of a text that begins at this place, of which so many bytes belong to the item before
abbrev pub items : ℕ → ℕ → List ℕ → List Item
items at n [] = []
items at zero (b ∷ bs) =
    if is_gap b
    then items (at + 1) 0 bs
    else (at, take (item_len (b ∷ bs)) (b ∷ bs)) ∷ items (at + 1) (item_len (b ∷ bs) - 1) bs
items at (suc n) (b ∷ bs) = items (at + 1) n bs

-- a first item `@2` says nothing: the text of a schedule may go on with targets
abbrev pub without_version : List Item → List Item
without_version [] = []
without_version (i ∷ is) = if bytes_eq i.1 (codes "@2") then is else i ∷ is

abbrev pub items_of : List ℕ → List Item
items_of text = without_version (items 0 0 text)
