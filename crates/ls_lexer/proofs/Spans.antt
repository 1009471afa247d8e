-- Counting the bytes of a run.
use Rattle.std.proofs.Common.{◌≡◌, ℕ, suc, ◌+◌, ◌<◌, ◌≤◌, Bool, true, false, List, [], ◌∷◌, length, drop, get_or}
use Rattle.std.proofs.Common.{Option, Some, None, refl, ap, ◌∙◌, arith, drop-cons, length-drop}
use Rattle.std.specs.Prelude.{◌==◌, ◌&&◌}
use Rattle.std.proofs.lemmas.List.{drop_all}
use Rattle.ls_lexer.specs.Characters.{run}
use Rattle.ls_lexer.specs.Tokens.{comment, longer}

-- the first n bytes pass the test
pub record Ran (test : ℕ → Bool) (xs : List ℕ) (n : ℕ) : Type 0 where
  pub within : n ≤ length xs
  pub same : run test xs ≡ n + run test (drop n xs)

-- no bytes pass it
pub ran_none : (test : ℕ → Bool) (xs : List ℕ) → Ran test xs 0
ran_none test xs = record { within = omega arith; same = omega arith }

-- one more byte passes it
pub ran_more : {test : ℕ → Bool} {xs : List ℕ} {n : ℕ} →
    Ran test xs n →
    n < length xs →
    test (get_or xs n 0) ≡ true →
    Ran test xs (n + 1)
ran_more {test} {xs} {n} r lt h =
    let next : suc n ≡ n + 1 = omega arith in
    let here : drop n xs ≡ get_or xs n 0 ∷ drop (n + 1) xs =
    drop-cons xs n 0 lt ∙ ap (λ (k : ℕ). get_or xs n 0 ∷ drop k xs) next in
    let one : run test (drop n xs) ≡ run test (drop (n + 1) xs) + 1 = rw (here, h) refl in
    record { within = omega arith; same = omega (arith, r.same, one) }

-- if the next byte doesn't pass the test, the run has n bytes
pub ran_stops : {test : ℕ → Bool} {xs : List ℕ} {n : ℕ} →
    Ran test xs n →
    n < length xs →
    test (get_or xs n 0) ≡ false →
    n ≡ run test xs
ran_stops {test} {xs} {n} r lt h =
    let here : drop n xs ≡ get_or xs n 0 ∷ drop (suc n) xs = drop-cons xs n 0 lt in
    let one : run test (drop n xs) ≡ 0 = rw (here, h) refl in
    omega (arith, r.same, one)

-- if there is no next byte, the run has n bytes
pub ran_out : {test : ℕ → Bool} {xs : List ℕ} {n : ℕ} → Ran test xs n → length xs ≤ n → n ≡ run test xs
ran_out {test} {xs} {n} r le =
    let none : drop n xs ≡ [] = drop_all n xs le in
    let one : run test (drop n xs) ≡ 0 = rw none refl in
    omega (arith, r.same, one)

abbrev pub shifted : ℕ → Option ℕ → Option ℕ
shifted n None = None
shifted n (Some m) = Some (n + m)

-- within the first n bytes the comment has no end
pub record Open (xs : List ℕ) (n : ℕ) : Type 0 where
  pub within : n ≤ length xs
  pub same : comment xs ≡ shifted n (comment (drop n xs))

shifted_zero : (o : Option ℕ) → o ≡ shifted 0 o
shifted_zero None = refl
shifted_zero (Some m) = ap Some (omega arith)

shifted_longer : (n : ℕ) (o : Option ℕ) → shifted n (longer o) ≡ shifted (n + 1) o
shifted_longer n None = refl
shifted_longer n (Some m) = ap Some (omega arith)

-- within no bytes the comment has no end
pub open_first : (xs : List ℕ) → Open xs 0
open_first xs = record { within = omega arith; same = shifted_zero (comment xs) }

two : (xs : List ℕ) (n : ℕ) → n + 1 < length xs → drop n xs ≡ get_or xs n 0 ∷ get_or xs (n + 1) 0 ∷ drop (n + 2) xs
two xs n lt =
    let k : n < length xs = omega arith in
    let a : drop n xs ≡ get_or xs n 0 ∷ drop (suc n) xs = drop-cons xs n 0 k in
    let lt' : suc n < length xs = omega arith in
    let b : drop (suc n) xs ≡ get_or xs (suc n) 0 ∷ drop (suc (suc n)) xs = drop-cons xs (suc n) 0 lt' in
    let e1 : suc n ≡ n + 1 = omega arith in
    let e2 : suc (suc n) ≡ n + 2 = omega arith in
    a ∙ ap (λ (l : List ℕ). get_or xs n 0 ∷ l) (b ∙ (λ i. get_or xs (e1 i) 0 ∷ drop (e2 i) xs))

one_left : (xs : List ℕ) (n : ℕ) → n + 1 < length xs → drop (n + 1) xs ≡ get_or xs (n + 1) 0 ∷ drop (n + 2) xs
one_left xs n lt =
    let b : drop (n + 1) xs ≡ get_or xs (n + 1) 0 ∷ drop (suc (n + 1)) xs = drop-cons xs (n + 1) 0 lt in
    let e2 : suc (n + 1) ≡ n + 2 = omega arith in
    b ∙ ap (λ (k : ℕ). get_or xs (n + 1) 0 ∷ drop k xs) e2

-- the comment ends here
pub open_ends : {xs : List ℕ} {n : ℕ} →
    Open xs n →
    n + 1 < length xs →
    get_or xs n 0 ≡ 42 →
    get_or xs (n + 1) 0 ≡ 47 →
    comment xs ≡ Some (n + 2)
open_ends {xs} {n} o lt a b = o.same ∙ rw (two xs n lt, a, b) refl

-- the comment goes on
pub open_goes_on : {xs : List ℕ} {n : ℕ} →
    Open xs n →
    n + 1 < length xs →
    (get_or xs n 0 == 42 && get_or xs (n + 1) 0 == 47) ≡ false →
    Open xs (n + 1)
open_goes_on {xs} {n} o lt h =
    let step : comment (drop n xs) ≡ longer (comment (drop (n + 1) xs)) = rw (two xs n lt, one_left xs n lt, h) refl in
    record { within = omega arith; same = o.same ∙ ap (shifted n) step ∙ shifted_longer n (comment (drop (n + 1) xs)) }

short : (ys : List ℕ) → length ys ≤ 1 → comment ys ≡ None
short [] le = refl
short (y ∷ []) le = refl
short (y ∷ z ∷ ys) le = absurd (omega arith)

-- the comment has no end at all
pub open_never : {xs : List ℕ} {n : ℕ} → Open xs n → length xs ≤ n + 1 → comment xs ≡ None
open_never {xs} {n} o le =
    let none : comment (drop n xs) ≡ None = short (drop n xs) (omega (arith, length-drop n xs)) in
    o.same ∙ rw none refl
