-- A text has the items into which gaps divide it.
use Rattle.std.proofs.Common.{◌≡◌, ◌∙◌, inl, inr, ◌+◌, ℕ, true, false, cond, List, [], ◌∷◌, ◌++◌, length, refl, sym}
use Rattle.std.proofs.Common.{ap, subst, arith}
use Rattle.std.proofs.lemmas.Bool.{cases_Bool, true≢false}
use Rattle.ls_items.specs.Items.{Item, is_gap, items, joined, with_byte, HasNoGap, EndsItem, Divides, ends, gap, item}
use Rattle.ls_items.specs.Items.{ItemsAreDivided}

-- ---- division gives the items

-- an item up to its end
word : (at b : ℕ) (w rest : List ℕ) →
    HasNoGap (b ∷ w) →
    EndsItem rest →
    items at (b ∷ w ++ rest) ≡ (at, b ∷ w) ∷ items (at + length (b ∷ w)) rest
word at b [] [] n e = ap (λ t. cond t [] ((at, b ∷ []) ∷ [])) n.0
word at b [] (c ∷ cs) n e =
    let more : List Item = items (at + 1) (c ∷ cs) in
    ap (λ t. cond t more (with_byte at b (c ∷ cs) more)) n.0 ∙
    ap (λ t. cond t ((at, b ∷ []) ∷ more) (joined at b more)) e
word at b (d ∷ w) rest n e =
    let more : List Item = items (at + 1) (d ∷ w ++ rest) in
    let next : at + 1 + length (d ∷ w) ≡ at + length (b ∷ d ∷ w) = omega arith in
    ap (λ t. cond t more (with_byte at b (d ∷ w ++ rest) more)) n.0 ∙
    ap (λ t. cond t ((at, b ∷ []) ∷ more) (joined at b more)) n.1.0
    ∙ ap (joined at b) (word (at + 1) d w rest n.1 e) ∙ ap (λ k. (at, b ∷ d ∷ w) ∷ items k rest) next

gives : {at : ℕ} {text : List ℕ} {is : List Item} → Divides at text is → items at text ≡ is
gives ends = refl
gives {at} (gap {bs = bs} b g d) = ap (λ t. cond t (items (at + 1) bs) (with_byte at b bs (items (at + 1) bs))) g ∙
    gives d
gives {at} (item {rest = rest} b w n e d) = word at b w rest n e ∙ ap (λ l. (at, b ∷ w) ∷ l) (gives d)

-- ---- and the items divide

-- one more byte before an item
longer : {at : ℕ} {text : List ℕ} {is : List Item} (b c : ℕ) (cs : List ℕ) →
    text ≡ c ∷ cs →
    is_gap b ≡ false →
    is_gap c ≡ false →
    (before : ℕ) →
    at ≡ before + 1 →
    Divides at text is →
    Divides before (b ∷ text) (joined before b is)
longer b c cs same n m before place ends = absurd cc
longer b c cs same n m before place (gap {bs = bs} d g more) =
    let is : d ≡ c = ap (λ (l : List ℕ). first d l) same in
    absurd (true≢false (sym g ∙ ap is_gap is ∙ m))
  where
    first : ℕ → List ℕ → ℕ
    first z [] = z
    first z (x ∷ xs) = x
longer {at} b c cs same n m before place (item {rest = rest} {is = is} d w f e more) =
    let next : at + length (d ∷ w) ≡ before + length (b ∷ d ∷ w) = omega arith in
    item b (d ∷ w) (n, f) e (subst (λ k. Divides k rest is) next more)

begins_gap : (at b : ℕ) (bs : List ℕ) →
    is_gap b ≡ true →
    Divides (at + 1) bs (items (at + 1) bs) →
    Divides at (b ∷ bs) (items at (b ∷ bs))
begins_gap at b bs g more =
    let is : items (at + 1) bs ≡ items at (b ∷ bs) =
    sym (ap (λ t. cond t (items (at + 1) bs) (with_byte at b bs (items (at + 1) bs))) g) in
    subst (Divides at (b ∷ bs)) is (gap b g more)

begins_item : (at b : ℕ) (bs : List ℕ) →
    is_gap b ≡ false →
    Divides (at + 1) bs (items (at + 1) bs) →
    Divides at (b ∷ bs) (with_byte at b bs (items (at + 1) bs))
begins_item at b [] n more = item b [] (n, tt) tt ends
begins_item at b (c ∷ cs) n more =
    let is : List Item = items (at + 1) (c ∷ cs) in
    elim (cases_Bool (is_gap c)) [
      | inl g ↦ subst (Divides at (b ∷ c ∷ cs)) (sym (ap (λ t. cond t ((at, b ∷ []) ∷ is) (joined at b is)) g))
          (item b [] (n, tt) g more)
      | inr m ↦ subst (Divides at (b ∷ c ∷ cs)) (sym (ap (λ t. cond t ((at, b ∷ []) ∷ is) (joined at b is)) m))
          (longer b c cs refl n m at refl more)
    ]

divided : (at : ℕ) (text : List ℕ) → Divides at text (items at text)
divided at [] = ends
divided at (b ∷ bs) =
    elim (cases_Bool (is_gap b)) [
      | inl g ↦ begins_gap at b bs g (divided (at + 1) bs)
      | inr n ↦
          let is : with_byte at b bs (items (at + 1) bs) ≡ items at (b ∷ bs) =
          sym (ap (λ t. cond t (items (at + 1) bs) (with_byte at b bs (items (at + 1) bs))) n) in
          subst (Divides at (b ∷ bs)) is (begins_item at b bs n (divided (at + 1) bs))
    ]

-- the law: a text has the items into which gaps divide it
pub items_are_divided : ItemsAreDivided
items_are_divided at text is = (λ e. subst (Divides at text) e (divided at text), gives)
