-- Lists of pieces, one after another.
use Rattle.std.proofs.Common.{◌≡◌, ◌∙◌, ◌+◌, ◌-◌, ◌≤◌, ℕ, zero, suc, Bool, map, append_assoc, List, [], ◌∷◌, ◌++◌, sym}
use Rattle.std.proofs.Common.{ap, arith}
use Rattle.std.specs.List.{filter, flat_map, range_with_len}
use Rattle.std.proofs.lemmas.List.FromFn.{filter_of_map_range_with_len_more}
use Rattle.std.proofs.lemmas.List.{append-nil, flat_map_more}

-- numbers one after the other, and one more
pub range_more : (a n : ℕ) → range_with_len a (n + 1) ≡ range_with_len a n ++ (a + n) ∷ []
range_more a zero =
    let same : a ≡ a + 0 = omega arith in
    ap (λ (k : ℕ). k ∷ []) same
range_more a (suc n) =
    let next : (a + 1) + n ≡ a + suc n = omega arith in
    let long : suc n + 1 ≡ suc (n + 1) = omega arith in
    ap (range_with_len a) long ∙ ap (λ (l : List ℕ). a ∷ l) (range_more (a + 1) n ∙
    ap (λ (k : ℕ). range_with_len (a + 1) n ++ k ∷ []) next)

pub pieces_none : {A : Type 0} (f : ℕ → List A) (from i : ℕ) (xs : List A) →
    i ≡ from →
    xs ≡ xs ++ flat_map f (range_with_len from (i - from))
pieces_none f from i xs start =
    let none : 0 ≡ i - from = omega arith in
    sym (append-nil xs) ∙ ap (λ (k : ℕ). xs ++ flat_map f (range_with_len from k)) none

pub pieces_more : {A : Type 0} (f : ℕ → List A) (from i : ℕ) (xs ys zs : List A) →
    from ≤ i →
    ys ≡ xs ++ flat_map f (range_with_len from (i - from)) →
    zs ≡ ys ++ f i →
    zs ≡ xs ++ flat_map f (range_with_len from (i + 1 - from))
pieces_more f from i xs ys zs start before more =
    let here : from + (i - from) ≡ i = omega arith in
    let next : i - from + 1 ≡ i + 1 - from = omega arith in
    more ∙ ap (λ l. l ++ f i) before ∙ flat_map_more f xs (range_with_len from (i - from)) i
    ∙ ap (λ l. xs ++ flat_map f l) (ap (λ k. range_with_len from (i - from) ++ k ∷ []) (sym here) ∙
    sym (range_more from (i - from)) ∙ ap (range_with_len from) next)

pub pieces_all : {A : Type 0} (f : ℕ → List A) (from i n : ℕ) (xs ys : List A) →
    i - from ≡ n →
    ys ≡ xs ++ flat_map f (range_with_len from (i - from)) →
    ys ≡ xs ++ flat_map f (range_with_len from n)
pieces_all f from i n xs ys over h = h ∙ ap (λ (k : ℕ). xs ++ flat_map f (range_with_len from k)) over

-- ---- what fits, one more

pub kept_none : {A : Type 0} (p : A → Bool) (f : ℕ → A) (xs : List A) → xs ≡ xs ++ filter p (map f (range_with_len 0 0))
kept_none p f xs = sym (append-nil xs)

pub kept_more : {A : Type 0} (p : A → Bool) (f : ℕ → A) (i : ℕ) (xs ys zs : List A) (x : A) →
    ys ≡ xs ++ filter p (map f (range_with_len 0 i)) →
    x ≡ f i →
    zs ≡ ys ++ filter p (x ∷ []) →
    zs ≡ xs ++ filter p (map f (range_with_len 0 (i + 1)))
kept_more p f i xs ys zs x before is more =
    more ∙ ap (λ l. l ++ filter p (x ∷ [])) before
    ∙ ap (λ y. (xs ++ filter p (map f (range_with_len 0 i))) ++ filter p (y ∷ [])) is
    ∙ append_assoc xs (filter p (map f (range_with_len 0 i))) (filter p (f i ∷ [])) ∙
    ap (λ l. xs ++ l) (sym (filter_of_map_range_with_len_more p f 0 i i (omega arith)))
