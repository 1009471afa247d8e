-- The items of a text, one after the other.
use Rattle.std.proofs.Common.{◌≡◌, ◌∙◌, ◌+◌, ◌<◌, ℕ, suc, Bool, true, false, cond, List, [], ◌∷◌, length, take, drop}
use Rattle.std.proofs.Common.{not, refl, sym, ap, arith}
use Rattle.std.specs.Prelude.{unwrap_or}
use Rattle.std.specs.List.{position, position_or_len, prefix_len}
use Rattle.std.proofs.lemmas.List.Sums.{prefix_len-le-length}
use Rattle.std.proofs.lemmas.Grind.{common_steps}
use Rattle.ls_items.specs.Items.{Item, is_gap, items, joined, with_byte}

-- how many bytes come before the first gap
abbrev pub until_gap : List ℕ → ℕ
until_gap bs = unwrap_or (position is_gap bs) (length bs)

pub until_gap_is : (bs : List ℕ) → until_gap bs ≡ position_or_len is_gap bs
until_gap_is bs = grind (arith, common_steps, prefix_len-le-length)

-- the length of an item that goes on with bs
abbrev pub rest_len : List ℕ → ℕ
rest_len bs = prefix_len (λ x. not (is_gap x)) bs

abbrev Begins : ℕ → ℕ → List ℕ → Type 0
Begins at b bs = items at (b ∷ bs) ≡ (at, b ∷ take (rest_len bs) bs) ∷
    items (at + (1 + rest_len bs)) (drop (rest_len bs) bs)

before_gap : (at b c : ℕ) (cs : List ℕ) → is_gap b ≡ false → is_gap c ≡ true → Begins at b (c ∷ cs)
before_gap at b c cs e g = rw (e, g, g) refl

before_more : (at b c : ℕ) (cs : List ℕ) →
    is_gap b ≡ false →
    is_gap c ≡ false →
    Begins (at + 1) c cs →
    Begins at b (c ∷ cs)
before_more at b c cs e g next =
    let k : ℕ = rest_len cs in
    let rest : List Item = items (at + 1) (c ∷ cs) in
    let place : at + 1 + (1 + k) ≡ at + (1 + suc k) = omega arith in
    let len : rest_len (c ∷ cs) ≡ suc k = ap (λ t. cond (not t) (1 + k) 0) g ∙ omega arith in
    ap (λ t. cond t rest (with_byte at b (c ∷ cs) rest)) e
    ∙ ap (λ t. cond t ((at, b ∷ []) ∷ rest) (joined at b rest)) g
    ∙ ap (joined at b) (next ∙ ap (λ n. (at + 1, c ∷ take k cs) ∷ items n (drop k cs)) place)
    ∙ ap (λ n. (at, b ∷ take n (c ∷ cs)) ∷ items (at + (1 + n)) (drop n (c ∷ cs))) (sym len)

first_item : (at b : ℕ) (bs : List ℕ) → is_gap b ≡ false → Begins at b bs
first_item at b [] e = rw e refl
first_item at b (c ∷ cs) e = go (is_gap c) refl (first_item (at + 1) c cs)
  where
    go : (t : Bool) → is_gap c ≡ t → (is_gap c ≡ false → Begins (at + 1) c cs) → Begins at b (c ∷ cs)
    go true g next = before_gap at b c cs e g
    go false g next = before_more at b c cs e g (next g)

pub items_item : (at : ℕ) (bs : List ℕ) →
    0 < until_gap bs →
    items at bs ≡ (at, take (until_gap bs) bs) ∷ items (at + until_gap bs) (drop (until_gap bs) bs)
items_item at [] lt = absurd (omega arith)
items_item at (b ∷ bs) lt = go (is_gap b) refl
  where
    go : (t : Bool) →
        is_gap b ≡ t →
        items at (b ∷ bs) ≡ (at, take (until_gap (b ∷ bs)) (b ∷ bs)) ∷
        items (at + until_gap (b ∷ bs)) (drop (until_gap (b ∷ bs)) (b ∷ bs))
    go true g = let none : position_or_len is_gap (b ∷ bs) ≡ 0 = rw g refl in
        absurd (omega (arith, until_gap_is (b ∷ bs)))
    go false g =
        let is : position_or_len is_gap (b ∷ bs) ≡ 1 + rest_len bs = rw g refl in
        let n : until_gap (b ∷ bs) ≡ suc (rest_len bs) = omega (arith, until_gap_is (b ∷ bs)) in
        let place : at + (1 + rest_len bs) ≡ at + suc (rest_len bs) = omega arith in
        first_item at b bs g ∙ ap (λ m. (at, b ∷ take (rest_len bs) bs) ∷ items m (drop (rest_len bs) bs)) place
        ∙ ap (λ m. (at, take m (b ∷ bs)) ∷ items (at + m) (drop m (b ∷ bs))) (sym n)

-- the first item and the others
pub items_split : (at len : ℕ) (bs front back : List ℕ) →
    len ≡ until_gap bs →
    (len ≡ 0 → ⊥) →
    front ≡ take len bs →
    back ≡ drop len bs →
    items at bs ≡ (at, front) ∷ items (at + len) back
items_split at len bs front back e some f b = rw (f, b, e) (items_item at bs (omega arith))

pub items_gap : (at : ℕ) (bs : List ℕ) → 0 < length bs → until_gap bs ≡ 0 → items at bs ≡ items (at + 1) (drop 1 bs)
items_gap at [] lt e = absurd (omega arith)
items_gap at (b ∷ bs) lt e = go (is_gap b) refl
  where
    go : (t : Bool) → is_gap b ≡ t → items at (b ∷ bs) ≡ items (at + 1) (drop 1 (b ∷ bs))
    go true g = rw g refl
    go false g =
        let is : position_or_len is_gap (b ∷ bs) ≡ 1 + rest_len bs = rw g refl in
        absurd (omega (arith, until_gap_is (b ∷ bs)))
