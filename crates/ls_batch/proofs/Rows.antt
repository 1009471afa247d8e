-- Rows of texts: what is told of a text that has a row, or none.
use Rattle.std.proofs.Common.{◌≡◌, ◌∙◌, ◌+◌, ◌<◌, ℕ, zero, suc, Bool, true, false, cond, List, [], ◌∷◌, ◌++◌, length}
use Rattle.std.proofs.Common.{map, Some, None, refl, sym, ap, subst, arith, inl, inr}
use Rattle.std.specs.Prelude.{◌⊎◌, slice_get}
use Rattle.ls_report.specs.Events.{Text}
use Rattle.ls_report.proofs.CutLemmas.{none_is, some_is}
use Rattle.ls_tallies.specs.Tallies.{is_of, Row}
use Rattle.ls_tallies.proofs.Places.{is_same, same_text, true_is}
use Rattle.ls_tallies.proofs.Told.{both, nothing, Once, one, said, told}

-- a row of another text tells nothing of this one
pub not_its : (t : Text) (r : Row) → (r.history ≡ t → ⊥) → one t r ≡ None
not_its t r lacks = go (is_of t r) refl
  where
    go : (b : Bool) → is_of t r ≡ b → cond b (said r.count r.seed) nothing ≡ None
    go true e = absurd (lacks (same_text r.history t e))
    go false e = refl

-- a row of the text tells its count and its seed
pub its : (t : Text) (r : Row) → r.history ≡ t → one t r ≡ said r.count r.seed
its t r e = ap (λ b. cond b (said r.count r.seed) nothing) (is_same r.history t e)

-- one of the rows is of the text
pub record Stands (t : Text) (rows : List Row) : Type 0 where
  pub at : ℕ
  pub row : Row
  pub there : slice_get rows at ≡ Some row
  pub same : row.history ≡ t

-- none of them is
abbrev pub Lacks : Text → List Row → Type 0
Lacks t rows = (k : ℕ) (r : Row) → slice_get rows k ≡ Some r → r.history ≡ t → ⊥

-- one is, or none
pub found : (t : Text) (rows : List Row) → Stands t rows ⊎ Lacks t rows
found t [] = inr (λ k r e same. none_is e)
found t (r ∷ rows) = go (is_of t r) refl (found t rows)
  where
    later : is_of t r ≡ false → Lacks t rows → Lacks t (r ∷ rows)
    later e lacks zero s got same = true_is (sym (is_same s.history t same) ∙ ap (is_of t) (sym (some_is got)) ∙ e)
    later e lacks (suc k) s got same = lacks k s got same

    go : (b : Bool) → is_of t r ≡ b → Stands t rows ⊎ Lacks t rows → Stands t (r ∷ rows) ⊎ Lacks t (r ∷ rows)
    go true e rest = inl (record { at = 0; row = r; there = refl; same = same_text r.history t e })
    go false e (inl x) = inl (record { at = suc x.at; row = x.row; there = x.there; same = x.same })
    go false e (inr lacks) = inr (later e lacks)

-- of a text without a row nothing is told
pub told_nothing : (t : Text) (rows : List Row) → Lacks t rows → told t rows ≡ None
told_nothing t [] lacks = refl
told_nothing t (r ∷ rows) lacks = ap (λ o. both o (told t rows)) (not_its t r (lacks 0 r refl)) ∙
    told_nothing t rows (λ k. lacks (suc k))

-- of a text with one row its count and its seed are told
pub told_there : (t : Text) (rows : List Row)
    → Once rows
    → (k : ℕ) (r : Row)
    → slice_get rows k ≡ Some r
    → r.history ≡ t
    → told t rows ≡ said r.count r.seed
told_there t [] o k r e s = absurd (none_is e)
told_there t (x ∷ rows) o zero r e s =
    let is : x ≡ r = some_is e in
    let same : x.history ≡ t = ap (λ (y : Row). y.history) is ∙ s in
    let first : told t (x ∷ rows) ≡ said x.count x.seed =
    ap (λ a. both a (told t rows)) (its t x same) ∙ ap (both (said x.count x.seed))
    (subst (λ h. told h rows ≡ None) same o.0) in
    subst (λ (y : Row). told t (x ∷ rows) ≡ said y.count y.seed) is first
told_there t (x ∷ rows) o (suc k) r e s =
    let rest = told_there t rows o.1 k r e s in
    let lacks : x.history ≡ t → ⊥ = λ same. none_is (sym (subst (λ h. told h rows ≡ None) same o.0) ∙ rest) in
    ap (λ a. both a (told t rows)) (not_its t x lacks) ∙ rest

-- rows of which no two have one text
pub once_apart : (rows : List Row)
    → ((j k : ℕ) (r s : Row) → j < k → slice_get rows j ≡ Some r → slice_get rows k ≡ Some s → r.history ≡ s.history →
    ⊥)
    → Once rows
once_apart [] lacks = tt
once_apart (r ∷ rows) lacks = (
  told_nothing r.history rows (λ k s got same. lacks 0 (suc k) r s (omega arith) refl got (sym same)),
  once_apart rows (λ j k p q lt. lacks (suc j) (suc k) p q (omega arith)),
)

-- ---- lists

-- an item of a mapped list is that of an item
pub got_map : {A B : Type 0} (f : A → B) (xs : List A) (k : ℕ) (y : B)
    → slice_get (map f xs) k ≡ Some y
    → (x : A) × (slice_get xs k ≡ Some x) × (f x ≡ y)
got_map f [] k y e = absurd (none_is e)
got_map f (x ∷ xs) zero y e = (x, refl, some_is e)
got_map f (x ∷ xs) (suc k) y e = got_map f xs k y e

-- the item of an item
pub get_map : {A B : Type 0} (f : A → B) (xs : List A) (k : ℕ) (x : A)
    → slice_get xs k ≡ Some x
    → slice_get (map f xs) k ≡ Some (f x)
get_map f [] k x e = absurd (none_is e)
get_map f (y ∷ xs) zero x e = ap (λ z. Some (f z)) (some_is e)
get_map f (y ∷ xs) (suc k) x e = get_map f xs k x e

-- an item of the first list
pub get_before : {A : Type 0} (xs ys : List A) (k : ℕ) (x : A)
    → slice_get xs k ≡ Some x
    → slice_get (xs ++ ys) k ≡ Some x
get_before [] ys k x e = absurd (none_is e)
get_before (y ∷ xs) ys zero x e = e
get_before (y ∷ xs) ys (suc k) x e = get_before xs ys k x e

-- an item of the second list
pub get_after : {A : Type 0} (xs ys : List A) (k : ℕ) (x : A)
    → slice_get ys k ≡ Some x
    → slice_get (xs ++ ys) (length xs + k) ≡ Some x
get_after [] ys k x e = let same : 0 + k ≡ k = omega arith in ap (slice_get ys) same ∙ e
get_after (y ∷ xs) ys k x e =
    let same : suc (length xs) + k ≡ suc (length xs + k) = omega arith in
    ap (slice_get (y ∷ (xs ++ ys))) same ∙ get_after xs ys k x e
