-- Programs by their numbers.
use Rattle.std.proofs.Common.{◌≡◌, ◌∙◌, ◌+◌, ◌^◌, ◌<◌, ℕ, zero, suc, List, [], ◌∷◌, ◌++◌, length, get_or, take, drop}
use Rattle.std.proofs.Common.{Some, refl, sym, ap, arith, sum_by}
use Rattle.std.specs.Prelude.{slice_get, option_map}
use Rattle.std.specs.List.{flat_map, range_with_len}
use Rattle.std.proofs.lemmas.List.{drop_more}
use Rattle.std.proofs.lemmas.List.Concat.{length-flat_map}
use Rattle.std.proofs.lemmas.List.FromFn.{length-range_with_len, length-map-range_with_len, get_or-range_with_len}
use Rattle.std.proofs.lemmas.List.Sums.{sum_by_more_le}
use Rattle.std.proofs.lemmas.Option.{slice_get-map, slice_get-get_or}
use Rattle.ls_families.specs.Shapes.{Shape}
use Rattle.ls_families.specs.Families.{Family, count_of, plan_of, plans, plans_of, size_of}
use Rattle.ls_families.specs.declared.menus.MenuSizes.{MenuSizes}

-- ---- an element of two lists

get_first : {A : Type 0} (xs ys : List A) (n : ℕ) → n < length xs → slice_get (xs ++ ys) n ≡ slice_get xs n
get_first [] ys n within = absurd (omega arith)
get_first (x ∷ xs) ys zero within = refl
get_first (x ∷ xs) ys (suc n) within = get_first xs ys n (omega arith)

get_second : {A : Type 0} (xs ys : List A) (n k : ℕ) → k ≡ length xs + n → slice_get (xs ++ ys) k ≡ slice_get ys n
get_second [] ys n k at =
    let same : k ≡ n = omega arith in
    ap (slice_get ys) same
get_second (x ∷ xs) ys n zero at = absurd (omega arith)
get_second (x ∷ xs) ys n (suc k) at = get_second xs ys n k (omega arith)

-- ---- the programs of a shape

many : (z : MenuSizes) (s : Shape) → length (plans_of z s) ≡ size_of z s
many z s = length-map-range_with_len (plan_of z s) 0 (size_of z s)

number_is : (n r : ℕ) → r < n → slice_get (range_with_len 0 n) r ≡ Some r
number_is n r within =
    let inside : r < length (range_with_len 0 n) = omega (arith, length-range_with_len 0 n) in
    let at : get_or (range_with_len 0 n) r 0 ≡ r = get_or-range_with_len 0 n r 0 within ∙ omega arith in
    slice_get-get_or (range_with_len 0 n) r 0 inside ∙ ap (λ (k : ℕ). Some k) at

numbered : (z : MenuSizes) (s : Shape) (r : ℕ) →
    r < size_of z s →
    slice_get (plans_of z s) r ≡ Some (plan_of z s r)
numbered z s r within =
    slice_get-map (plan_of z s) (range_with_len 0 (size_of z s)) r ∙
    ap (option_map (plan_of z s)) (number_is (size_of z s) r within)

-- ---- those of several shapes

here : (z : MenuSizes) (shapes : List Shape) (i : ℕ) (s : Shape) →
    i < length shapes →
    s ≡ get_or shapes i s →
    flat_map (plans_of z) (drop i shapes) ≡ plans_of z s ++ flat_map (plans_of z) (drop (i + 1) shapes)
here z shapes i s within is =
    ap (flat_map (plans_of z)) (drop_more shapes i s within ∙ ap (λ (t : Shape). t ∷ drop (i + 1) shapes) (sym is))

-- a number of one of the next shape
pub plan_here : (z : MenuSizes) (shapes : List Shape) (i r : ℕ) (s : Shape) →
    i < length shapes →
    s ≡ get_or shapes i s →
    r < size_of z s →
    slice_get (flat_map (plans_of z) (drop i shapes)) r ≡ Some (plan_of z s r)
plan_here z shapes i r s within is below =
    ap (λ l. slice_get l r) (here z shapes i s within is) ∙
    get_first (plans_of z s) (flat_map (plans_of z) (drop (i + 1) shapes)) r (omega (arith, many z s, below)) ∙
    numbered z s r below

-- a number after those of the next shape
pub plan_after : (z : MenuSizes) (shapes : List Shape) (i r rest : ℕ) (s : Shape) →
    i < length shapes →
    s ≡ get_or shapes i s →
    size_of z s + rest ≡ r →
    slice_get (flat_map (plans_of z) (drop i shapes)) r ≡
    slice_get (flat_map (plans_of z) (drop (i + 1) shapes)) rest
plan_after z shapes i r rest s within is at =
    ap (λ l. slice_get l r) (here z shapes i s within is) ∙
    get_second (plans_of z s) (flat_map (plans_of z) (drop (i + 1) shapes)) rest r
    (omega (arith, many z s, at))

-- ---- how many there are

pub all_counted : (f : Family) → length (plans f) ≡ count_of f
all_counted f = length-flat_map (plans_of f.sizes) f.shapes ∙ (λ i. sum_by (λ s. many f.sizes s i) f.shapes)

-- a sum that is too great stays so
pub too_many : (z : MenuSizes) (shapes : List Shape) (i n : ℕ) (s : Shape) →
    i < length shapes →
    s ≡ get_or shapes i s →
    n ≡ sum_by (λ s. size_of z s) (take i shapes) →
    ¬ (n + size_of z s < 2 ^ 64) →
    ¬ (sum_by (λ s. size_of z s) shapes < 2 ^ 64)
too_many z shapes i n s within is so_far over below =
    let size : Shape → ℕ = λ t. size_of z t in
    let same : size s ≡ size (get_or shapes i s) = ap size is in
    let most = sum_by_more_le (λ t. size_of z t) shapes i s within in
    over (omega (arith, same, most, so_far, below))
