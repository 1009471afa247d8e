-- The items of a text, one after the other.
use Rattle.std.proofs.Common.{◌≡◌, ◌≢◌, ◌∙◌, ◌+◌, ◌-◌, ◌<◌, ◌≤◌, ℕ, zero, suc, Bool, true, false, not, cond, List, []}
use Rattle.std.proofs.Common.{◌∷◌, length, get_or, take, drop, refl, sym, ap, arith}
use Rattle.std.specs.Prelude.{◌==◌, ◌&&◌, codes, if◌then◌else◌}
use Rattle.std.specs.List.{prefix_len}
use Rattle.std.specs.Str.{bytes_eq}
use Rattle.std.proofs.lemmas.List.{drop-drop, drop_all, drop_more}
use Rattle.ls_items.specs.Items.{Item, is_gap}
use Rattle.ls_aim.specs.Texts.{group_len, item_len, items, items_of, depth_after, opens_group, without_version}
use Rattle.ls_aim.specs.Texts.{word_len}

-- ---- lengths

abbrev quoted_after : Bool → ℕ → Bool
quoted_after q b = if b == 34 then not q else q

-- ---- items

-- bytes that belong to the item before
pub skipped : (at n : ℕ) (text : List ℕ) → items at n text ≡ items (at + n) 0 (drop n text)
skipped at zero [] = refl
skipped at (suc n) [] = refl
skipped at zero (b ∷ bs) = let same : at ≡ at + 0 = omega arith in ap (λ a. items a 0 (b ∷ bs)) same
skipped at (suc n) (b ∷ bs) =
    let place : at + 1 + n ≡ at + suc n = omega arith in
    skipped (at + 1) n bs ∙ ap (λ a. items a 0 (drop n bs)) place

not_group : (b : ℕ) (bs : List ℕ) → is_gap b ≡ true → item_len (b ∷ bs) ≡ 0
not_group b bs e = at_group (b == 40) refl
  where
    at_group : (g : Bool) → (b == 40) ≡ g → item_len (b ∷ bs) ≡ 0
    at_group true g = rw (g, e) refl
    at_group false g = rw (g, e) refl

some_bytes : (b : ℕ) (bs : List ℕ) → is_gap b ≡ false → item_len (b ∷ bs) ≢ 0
some_bytes b bs e = at_group (b == 40) refl
  where
    at_group : (g : Bool) → (b == 40) ≡ g → item_len (b ∷ bs) ≢ 0
    at_group true g =
        let n : item_len (b ∷ bs) ≡ 1 + group_len (depth_after 0 b) bs = rw (g, e) refl in
        λ h. omega arith
    at_group false g =
        let n : item_len (b ∷ bs) ≡ 1 + word_len (quoted_after false b) bs = rw (g, e) refl in
        λ h. omega arith

-- the item with which a text begins
abbrev pub first : ℕ → List ℕ → Item
first at text = (at, take (item_len text) text)

abbrev pub others : ℕ → List ℕ → List Item
others at text = items (at + item_len text) 0 (drop (item_len text) text)

item_first : (at b : ℕ) (bs : List ℕ) (n : ℕ) → is_gap b ≡ false → item_len (b ∷ bs) ≡ suc n
    → items at 0 (b ∷ bs) ≡ first at (b ∷ bs) ∷ others at (b ∷ bs)
item_first at b bs n g e =
    let less : item_len (b ∷ bs) - 1 ≡ n = omega arith in
    let place : at + 1 + n ≡ at + suc n = omega arith in
    let rest : items (at + 1) (item_len (b ∷ bs) - 1) bs ≡ others at (b ∷ bs) =
    ap (λ m. items (at + 1) m bs) less ∙ skipped (at + 1) n bs ∙ ap (λ a. items a 0 (drop n bs)) place
    ∙ ap (λ m. items (at + m) 0 (drop m (b ∷ bs))) (sym e) in
    ap (λ t. cond t (items (at + 1) 0 bs) (first at (b ∷ bs) ∷ items (at + 1) (item_len (b ∷ bs) - 1) bs)) g
    ∙ ap (λ is. first at (b ∷ bs) ∷ is) rest

pub after_item : (at : ℕ) (text : List ℕ) → item_len text ≢ 0 → items at 0 text ≡ first at text ∷ others at text
after_item at [] h = absurd (h refl)
after_item at (b ∷ bs) h = by_gap (is_gap b) refl
  where
    by_len : (n : ℕ) →
        is_gap b ≡ false →
        item_len (b ∷ bs) ≡ n →
        items at 0 (b ∷ bs) ≡ first at (b ∷ bs) ∷ others at (b ∷ bs)
    by_len zero g e = absurd (h e)
    by_len (suc n) g e = item_first at b bs n g e

    by_gap : (g : Bool) → is_gap b ≡ g → items at 0 (b ∷ bs) ≡ first at (b ∷ bs) ∷ others at (b ∷ bs)
    by_gap true g = absurd (h (not_group b bs g))
    by_gap false g = by_len (item_len (b ∷ bs)) g refl

pub items_split : (at len : ℕ) (text front back : List ℕ) →
    len ≡ item_len text →
    (len ≡ 0 → ⊥) →
    front ≡ take len text →
    back ≡ drop len text
    → items at 0 text ≡ (at, front) ∷ items (at + len) 0 back
items_split at len text front back e some f b = rw (f, b, e) (after_item at text (λ z. some (e ∙ z)))

-- ---- the start

abbrev is_version : List ℕ → Bool
is_version item = bytes_eq item (codes "@2")

-- where no gap stands first
abbrev begun : ℕ → List ℕ → List Item
begun at text = cond (is_version (take (item_len text) text)) (others at text) (items at 0 text)

at_item : (at b : ℕ) (bs : List ℕ) → is_gap b ≡ false → without_version (items at 0 (b ∷ bs)) ≡ begun at (b ∷ bs)
at_item at b bs g =
    let is = after_item at (b ∷ bs) (some_bytes b bs g) in
    ap without_version is
    ∙ ap (λ all. cond (is_version (take (item_len (b ∷ bs)) (b ∷ bs))) (others at (b ∷ bs)) all) (sym is)

gaps_first : (at : ℕ) (text : List ℕ) →
    without_version (items at 0 text) ≡ begun (at + prefix_len is_gap text) (drop (prefix_len is_gap text) text)
gaps_first at [] = refl
gaps_first at (b ∷ bs) = by_gap (is_gap b) refl (gaps_first (at + 1) bs)
  where
    Claim : Type 0
    Claim = without_version (items at 0 (b ∷ bs)) ≡ begun (at + prefix_len is_gap (b ∷ bs))
        (drop (prefix_len is_gap (b ∷ bs)) (b ∷ bs))

    by_gap : (g : Bool) → is_gap b ≡ g
        → without_version (items (at + 1) 0 bs) ≡ begun (at + 1 + prefix_len is_gap bs) (drop (prefix_len is_gap bs) bs)
        → without_version (items at 0 (b ∷ bs)) ≡ begun (at + prefix_len is_gap (b ∷ bs))
        (drop (prefix_len is_gap (b ∷ bs)) (b ∷ bs))
    by_gap true g next =
        let k : ℕ = prefix_len is_gap bs in
        let len : prefix_len is_gap (b ∷ bs) ≡ suc k = ap (λ t. cond t (1 + k) 0) g ∙ omega arith in
        let place : at + 1 + k ≡ at + suc k = omega arith in
        ap (λ t. without_version (cond t (items (at + 1) 0 bs)
        (first at (b ∷ bs) ∷ items (at + 1) (item_len (b ∷ bs) - 1) bs))) g
        ∙ next ∙ ap (λ a. begun a (drop k bs)) place ∙ ap (λ n. begun (at + n) (drop n (b ∷ bs))) (sym len)
    by_gap false g next =
        let len : prefix_len is_gap (b ∷ bs) ≡ 0 = ap (λ t. cond t (1 + prefix_len is_gap bs) 0) g in
        let place : at ≡ at + 0 = omega arith in
        at_item at b bs g ∙ ap (λ a. begun a (b ∷ bs)) place ∙ ap (λ n. begun (at + n) (drop n (b ∷ bs))) (sym len)

-- the items of a text whose first gaps and first item have these lengths
pub started : (text : List ℕ) (gaps : ℕ) → gaps ≡ prefix_len is_gap text → items_of text ≡ begun gaps (drop gaps text)
started text gaps e =
    let place : 0 + prefix_len is_gap text ≡ gaps = omega (arith, e) in
    gaps_first 0 text ∙ ap (λ n. begun n (drop (prefix_len is_gap text) text)) place ∙
    ap (λ n. begun gaps (drop n text)) (sym e)

-- after a first item `@2`
pub after_version : (text rest item : List ℕ) (gaps len : ℕ) →
    gaps ≡ prefix_len is_gap text →
    rest ≡ drop gaps text →
    len ≡ item_len rest →
    item ≡ take len rest
    → is_version item ≡ true → items (gaps + len) 0 (drop (gaps + len) text) ≡ items_of text
after_version text rest item gaps len g r l i v =
    let is : is_version (take (item_len rest) rest) ≡ true = ap (λ n. is_version (take n rest)) (sym l) ∙
    ap is_version (sym i) ∙ v in
    ap (λ bs. items (gaps + len) 0 bs) (sym (drop-drop len gaps text)) ∙
    ap (λ bs. items (gaps + len) 0 (drop len bs)) (sym r)
    ∙ ap (λ n. items (gaps + n) 0 (drop n rest)) l ∙ sym (ap (λ t. cond t (others gaps rest) (items gaps 0 rest)) is)
    ∙ ap (begun gaps) r ∙ sym (started text gaps g)

-- without it
pub no_version : (text rest item : List ℕ) (gaps len : ℕ) →
    gaps ≡ prefix_len is_gap text →
    rest ≡ drop gaps text →
    len ≡ item_len rest →
    item ≡ take len rest
    → is_version item ≡ false → items gaps 0 (drop gaps text) ≡ items_of text
no_version text rest item gaps len g r l i v =
    let is : is_version (take (item_len rest) rest) ≡ false = ap (λ n. is_version (take n rest)) (sym l) ∙
    ap is_version (sym i) ∙ v in
    ap (λ bs. items gaps 0 bs) (sym r) ∙ sym (ap (λ t. cond t (others gaps rest) (items gaps 0 rest)) is)
    ∙ ap (begun gaps) r ∙ sym (started text gaps g)
