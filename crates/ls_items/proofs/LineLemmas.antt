-- The lines of a text, one after the other.
use Rattle.std.proofs.Common.{◌≡◌, ◌∙◌, ◌+◌, ◌<◌, ◌==◌, ℕ, suc, Bool, true, false, cond, eqb, List, [], ◌∷◌, length}
use Rattle.std.proofs.Common.{take, drop, refl, sym, ap, arith}
use Rattle.std.specs.List.{position_or_len}
use Rattle.ls_items.specs.Parts.{lines_of, onto_first}

-- how far the first line feed is
abbrev pub feed : List ℕ → ℕ
feed bs = position_or_len (λ b. eqb b 10) bs

-- a text without a line feed is one line
pub one_line : (bs : List ℕ) → feed bs ≡ length bs → lines_of bs ≡ bs ∷ []
one_line [] e = refl
one_line (b ∷ bs) e = go (b == 10) refl (one_line bs)
  where
    go : (t : Bool) → (b == 10) ≡ t → (feed bs ≡ length bs → lines_of bs ≡ bs ∷ []) → lines_of (b ∷ bs) ≡ (b ∷ bs) ∷ []
    go true g next = let none : feed (b ∷ bs) ≡ 0 = rw g refl in absurd (omega arith)
    go false g next =
        let more : feed (b ∷ bs) ≡ 1 + feed bs = rw g refl in
        ap (λ t. cond t ([] ∷ lines_of bs) (onto_first b (lines_of bs))) g ∙ ap (onto_first b) (next (omega arith))

-- a text with a line feed: the first line and the others
pub first_line : (bs : List ℕ) →
    feed bs < length bs →
    lines_of bs ≡ take (feed bs) bs ∷ lines_of (drop (feed bs + 1) bs)
first_line [] e = absurd (omega arith)
first_line (b ∷ bs) e = go (b == 10) refl (first_line bs)
  where
    go : (t : Bool) →
        (b == 10) ≡ t →
        (feed bs < length bs → lines_of bs ≡ take (feed bs) bs ∷ lines_of (drop (feed bs + 1) bs))
        → lines_of (b ∷ bs) ≡ take (feed (b ∷ bs)) (b ∷ bs) ∷ lines_of (drop (feed (b ∷ bs) + 1) (b ∷ bs))
    go true g next =
        let none : feed (b ∷ bs) ≡ 0 = rw g refl in
        ap (λ t. cond t ([] ∷ lines_of bs) (onto_first b (lines_of bs))) g
        ∙ ap (λ n. take n (b ∷ bs) ∷ lines_of (drop (n + 1) (b ∷ bs))) (sym none)
    go false g next =
        let k : ℕ = feed bs in
        let more : feed (b ∷ bs) ≡ 1 + k = rw g refl in
        let n : feed (b ∷ bs) ≡ suc k = omega arith in
        let place : suc (k + 1) ≡ suc k + 1 = omega arith in
        ap (λ t. cond t ([] ∷ lines_of bs) (onto_first b (lines_of bs))) g ∙ ap (onto_first b) (next (omega arith))
        ∙ ap (λ m. (b ∷ take k bs) ∷ lines_of (drop m (b ∷ bs))) place
        ∙ ap (λ m. take m (b ∷ bs) ∷ lines_of (drop (m + 1) (b ∷ bs))) (sym n)
