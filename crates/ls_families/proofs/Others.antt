-- Plans with two threads exchanged, and where they stand.
use Rattle.std.proofs.Common.{◌≡◌, ◌∙◌, ◌⊎◌, inl, inr, ◌+◌, ◌*◌, ◌/◌, ◌%◌, ◌^◌, ◌<◌, ◌≤◌, ◌&&◌, ◌||◌, ◌==◌}
use Rattle.std.proofs.Common.{ℕ, zero, suc, Bool, true, false, cond, List, [], ◌∷◌, ◌++◌, Some, ap, arith, drop, length}
use Rattle.std.proofs.Common.{refl, subst, sum, sym, take}
use Rattle.std.specs.Prelude.{All, AllPairs, nat_lt, slice_index_or}
use Rattle.std.specs.List.{range_with_len}
use Rattle.std.proofs.lemmas.Bool.{cases_lt, eq-eqb, eqb-true, ltb-true, true≢false}
use Rattle.std.proofs.lemmas.List.{length-append, take-append-drop}
use Rattle.std.proofs.lemmas.List.Elements.{All-append, All-drop, All-nil, All-take}
use Rattle.std.proofs.lemmas.Nat.{div-add-mod', div_below, mod_below}
use Rattle.std.proofs.lemmas.Option.{slice_get-get_or, slice_get_within}
use Rattle.std.proofs.Math.Nat.{mul-le-mul_right, pow-suc}
use Rattle.std.proofs.Math.Seq.{drop-append_seam, take-append_seam}
use Rattle.ls_families.specs.Belonging.{IsPlace, IsPlanOf}
use Rattle.ls_families.specs.Choices.{choices}
use Rattle.ls_families.specs.Doubles.{OtherStandsBefore, exchanged_calls, has_greater, is_exchanged, is_greater}
use Rattle.ls_families.specs.Doubles.{other_of}
use Rattle.ls_families.specs.Families.{HaveNone, Plan, family_of, of_setup, of_threads, plan_of, plans, plans_of}
use Rattle.ls_families.specs.Families.{size_of}
use Rattle.ls_families.specs.Shapes.{Shape, shapes}
use Rattle.ls_families.specs.declared.menus.MenuSizes.{MenuSizes}
use Rattle.ls_families.specs.declared.shapes.Bounds.{Bounds}
use Rattle.ls_families.proofs.Belongs.{each_belongs, setup_calls_long, setup_long, shape_is, some_of_setup}
use Rattle.ls_families.proofs.Belongs.{some_of_threads, some_setup, some_threads}
use Rattle.ls_families.proofs.Formed.{InOrder, shapes_in_order}
use Rattle.ls_families.proofs.Members.{Pairs, all_pairs, pairs_map, pairs_pieces, pairs_range}
use Rattle.ls_families.proofs.Numbers.{choices_differ, choices_long}
use Rattle.ls_families.proofs.Parted.{less_number}

-- ---- two threads exchanged are as many calls, and the same ones

-- what is so of the calls both where this thread and the one before it are exchanged, and where they aren't
step : (P : List ℕ → Type 0) (t : Bool) (xs ys : List ℕ) → (t ≡ true → P xs) → (t ≡ false → P ys) → P (cond t xs ys)
step P true xs ys one two = one refl
step P false xs ys one two = two refl

long : (n : ℕ) (before lengths calls : List ℕ) →
    length (exchanged_calls n before lengths calls) ≡ length before + length calls
long n before [] calls = length-append before calls
long n before (m ∷ lengths) calls =
    let first = take m calls in
    let rest = drop m calls in
    let whole : length first + length rest ≡ length calls =
    sym (length-append first rest) ∙ ap length (take-append-drop m calls) in
    step (λ l. length l ≡ length before + length calls) ((n == m) && is_greater before first)
    (first ++ (before ++ rest))
    (before ++ exchanged_calls m first lengths rest)
    (λ is. omega (arith, length-append first (before ++ rest), length-append before rest, whole))
    (λ is. omega (arith, length-append before (exchanged_calls m first lengths rest), long m first lengths rest, whole))

all : (P : ℕ → Type 0) (n : ℕ) (before lengths calls : List ℕ) →
    All P before →
    All P calls →
    All P (exchanged_calls n before lengths calls)
all P n before [] calls these those = All-append P before calls these those
all P n before (m ∷ lengths) calls these those =
    let first = take m calls in
    let rest = drop m calls in
    let firsts : All P first = All-take P m calls those in
    let rests : All P rest = All-drop P m calls those in
    step (All P) ((n == m) && is_greater before first) (first ++ (before ++ rest))
    (before ++ exchanged_calls m first lengths rest)
    (λ is. All-append P first (before ++ rest) firsts (All-append P before rest these rests))
    (λ is. All-append P before (exchanged_calls m first lengths rest) these (all P m first lengths rest firsts rests))

-- ---- they are less where they first differ

greater_more : (as' bs xs ys : List ℕ) → is_greater as' bs ≡ true → is_greater (as' ++ xs) (bs ++ ys) ≡ true
greater_more [] bs xs ys is = absurd (true≢false (sym is))
greater_more (a ∷ as') [] xs ys is = absurd (true≢false (sym is))
greater_more (a ∷ as') (b ∷ bs) xs ys is = go (greater_more as' bs xs ys) (a == b) is
  where
    go : (is_greater as' bs ≡ true → is_greater (as' ++ xs) (bs ++ ys) ≡ true) → (t : Bool) → cond t (is_greater as' bs)
        (nat_lt b a) ≡ true →
        cond t (is_greater (as' ++ xs) (bs ++ ys)) (nat_lt b a) ≡ true
    go more true e = more e
    go more false e = e

greater_past : (zs xs ys : List ℕ) → is_greater xs ys ≡ true → is_greater (zs ++ xs) (zs ++ ys) ≡ true
greater_past [] xs ys is = is
greater_past (z ∷ zs) xs ys is =
    ap (λ t. cond t (is_greater (zs ++ xs) (zs ++ ys)) (nat_lt z z)) (eq-eqb z z refl) ∙ greater_past zs xs ys is

both : (s t : Bool) → (s && t) ≡ true → t ≡ true
both true t is = is
both false t is = absurd (true≢false (sym is))

other : (s t : Bool) → s ≡ false → (s || t) ≡ true → t ≡ true
other true t isnt is = absurd (true≢false isnt)
other false t isnt is = is

-- the calls, with the two exchanged, are less
less : (n : ℕ) (before lengths calls : List ℕ) → has_greater n before lengths calls ≡ true →
    is_greater (before ++ calls) (exchanged_calls n before lengths calls) ≡ true
less n before [] calls is = absurd (true≢false (sym is))
less n before (m ∷ lengths) calls is =
    let first = take m calls in
    let rest = drop m calls in
    let these = (n == m) && is_greater before first in
    let whole : first ++ rest ≡ calls = take-append-drop m calls in
    step (λ l. is_greater (before ++ calls) l ≡ true) these (first ++ (before ++ rest))
    (before ++ exchanged_calls m first lengths rest)
    (λ exchanged. greater_more before first calls (before ++ rest) (both (n == m) (is_greater before first) exchanged))
    (λ isnt. greater_past before calls (exchanged_calls m first lengths rest)
    (subst (λ l. is_greater l (exchanged_calls m first lengths rest) ≡ true) whole
    (less m first lengths rest (other these (has_greater m first lengths rest) isnt is))))

-- ---- what is less has a smaller number

greater_self : (xs : List ℕ) → is_greater xs xs ≡ true → ⊥
greater_self [] is = true≢false (sym is)
greater_self (x ∷ xs) is =
    greater_self xs (sym (ap (λ t. cond t (is_greater xs xs) (nat_lt x x)) (eq-eqb x x refl)) ∙ is)

-- two lists with one more number each
greater_push : (as' bs : List ℕ) (a b : ℕ) → length as' ≡ length bs →
    is_greater (as' ++ a ∷ []) (bs ++ b ∷ []) ≡ true → (is_greater as' bs ≡ true) ⊎ ((as' ≡ bs) × (b < a))
greater_push [] [] a b same is = go (a == b) is
  where
    none : List ℕ
    none = []

    go : (t : Bool) → cond t false (nat_lt b a) ≡ true → (false ≡ true) ⊎ ((none ≡ none) × (b < a))
    go true e = inl e
    go false e = inr (refl, ltb-true b a e)
greater_push [] (y ∷ bs) a b same is = absurd (omega (arith, same))
greater_push (x ∷ as') [] a b same is = absurd (omega (arith, same))
greater_push (x ∷ as') (y ∷ bs) a b same is = go (greater_push as' bs a b (omega (arith, same))) (x == y) refl is
  where
    go : (is_greater (as' ++ a ∷ []) (bs ++ b ∷ []) ≡ true → (is_greater as' bs ≡ true) ⊎ ((as' ≡ bs) × (b < a))) →
        (t : Bool) → (x == y) ≡ t → cond t (is_greater (as' ++ a ∷ []) (bs ++ b ∷ [])) (nat_lt y x) ≡ true →
        (is_greater (x ∷ as') (y ∷ bs) ≡ true) ⊎ ((x ∷ as' ≡ y ∷ bs) × (b < a))
    go more true at e = elim (more e) [
      | inl g ↦ inl (ap (λ t. cond t (is_greater as' bs) (nat_lt y x)) at ∙ g)
      | inr g ↦ inr ((λ i. eqb-true x y at i ∷ g.0 i), g.1)
    ]
    go more false at e = inl (ap (λ t. cond t (is_greater as' bs) (nat_lt y x)) at ∙ e)

-- the number of the greater choices is the greater
greater_after : (m n i j : ℕ) → 0 < m → i < m ^ n → j < m ^ n →
    is_greater (choices m n i) (choices m n j) ≡ true → j < i
greater_after m zero i j some low high is = absurd (true≢false (sym is))
greater_after m (suc n) i j some low high is =
    let power = pow-suc m n in
    let is_low : i / m < m ^ n = div_below i m (m ^ n) some (omega (arith, power, low)) in
    let is_high : j / m < m ^ n = div_below j m (m ^ n) some (omega (arith, power, high)) in
    let long : length (choices m n (i / m)) ≡ length (choices m n (j / m)) =
    choices_long m n (i / m) ∙ sym (choices_long m n (j / m)) in
    let first = div-add-mod' i m in
    let second = div-add-mod' j m in
    elim (greater_push (choices m n (i / m)) (choices m n (j / m)) (i % m + 1) (j % m + 1) long is) [
      | inl g ↦
          let less : j / m + 1 ≤ i / m = omega (arith, greater_after m n (i / m) (j / m) some is_low is_high g) in
          let scaled : (j / m + 1) * m ≤ i / m * m = mul-le-mul_right m less in
          let one : (j / m + 1) * m ≡ j / m * m + m = omega arith in
          omega (arith, scaled, one, first, second, mod_below j m some)
      | inr g ↦
          let same : i / m ≡ j / m = choices_differ m n (i / m) (j / m) some is_low is_high g.0 in
          let scaled : i / m * m ≡ j / m * m = ap (λ k. k * m) same in
          omega (arith, scaled, first, second, g.1)
    ]

-- ---- so no plan stands before a lesser one of its shape and making

-- calls that are greater are so in the setup, or there they are the same and those of the threads are greater
greater_parts : (as' bs xs ys : List ℕ) → length as' ≡ length bs → is_greater (as' ++ xs) (bs ++ ys) ≡ true →
    (is_greater as' bs ≡ true) ⊎ ((as' ≡ bs) × (is_greater xs ys ≡ true))
greater_parts [] [] xs ys same is = inr (refl, is)
greater_parts [] (y ∷ bs) xs ys same is = absurd (omega (arith, same))
greater_parts (x ∷ as') [] xs ys same is = absurd (omega (arith, same))
greater_parts (a ∷ as') (b ∷ bs) xs ys same is = go (greater_parts as' bs xs ys (omega (arith, same))) (a == b) refl is
  where
    go : (is_greater (as' ++ xs) (bs ++ ys) ≡ true → (is_greater as' bs ≡ true) ⊎
        ((as' ≡ bs) × (is_greater xs ys ≡ true))) →
        (t : Bool) → (a == b) ≡ t → cond t (is_greater (as' ++ xs) (bs ++ ys)) (nat_lt b a) ≡ true →
        (is_greater (a ∷ as') (b ∷ bs) ≡ true) ⊎ ((a ∷ as' ≡ b ∷ bs) × (is_greater xs ys ≡ true))
    go more true at e = elim (more e) [
      | inl g ↦ inl (ap (λ t. cond t (is_greater as' bs) (nat_lt b a)) at ∙ g)
      | inr g ↦ inr ((λ i. eqb-true a b at i ∷ g.0 i), g.1)
    ]
    go more false at e = inl (ap (λ t. cond t (is_greater as' bs) (nat_lt b a)) at ∙ e)

-- of two numbers of a shape, with the same making, that of the greater calls is the greater
greater_plan : (z : MenuSizes) (s : Shape) (i j : ℕ) → ¬ HaveNone z →
    (plan_of z s i).making ≡ (plan_of z s j).making →
    is_greater (plan_of z s i).calls (plan_of z s j).calls ≡ true → j < i
greater_plan z s i j some made greater =
    let u = of_setup z s in
    let t = of_threads z s in
    let low : (n : ℕ) → n % u < u = λ n. mod_below n u (some_of_setup z s some) in
    let less : (n : ℕ) → n % t < t = λ n. mod_below n t (some_of_threads z s some) in
    let first : i / t / u ≡ j / t / u = omega (arith, made) in
    let long : length (choices z.setup s.setup (i / t % u)) ≡ length (choices z.setup s.setup (j / t % u)) =
    setup_long z s (i / t % u) ∙ sym (setup_long z s (j / t % u)) in
    let others = choices z.threads (sum s.threads) in
    less_number u t i j (some_of_threads z s some) first
    (elim (greater_parts (choices z.setup s.setup (i / t % u)) (choices z.setup s.setup (j / t % u)) (others (i % t))
    (others (j % t)) long greater) [
      | inl g ↦ inl (greater_after z.setup s.setup (i / t % u) (j / t % u) (some_setup z some) (low (i / t))
          (low (j / t)) g)
      | inr g ↦ inr (
        choices_differ z.setup s.setup (j / t % u) (i / t % u) (some_setup z some) (low (j / t)) (low (i / t))
            (sym g.0),
        greater_after z.threads (sum s.threads) (i % t) (j % t) (some_threads z some) (less i) (less j) g.1,
      )
    ])

abbrev Rising : Plan → Plan → Type 0
Rising p q = p.shape ≡ q.shape → p.making ≡ q.making → is_greater p.calls q.calls ≡ true → ⊥

rise_in : (z : MenuSizes) (s : Shape) → ¬ HaveNone z → Pairs Rising (plans_of z s)
rise_in z s some =
    pairs_map (λ i j. i < j) Rising (plan_of z s) (range_with_len 0 (size_of z s))
    (pairs_range 0 (size_of z s))
    (λ i j hi hj below same made greater.
    let after = greater_plan z s i j some made greater in
    omega (arith, below, after))

rise : (z : MenuSizes) (b : Bounds) → ¬ HaveNone z → 0 < b.calls → AllPairs Rising (plans (family_of z b))
rise z b some calls =
    all_pairs Rising (plans (family_of z b))
    (pairs_pieces InOrder Rising (plans_of z) (shapes b) (shapes_in_order b calls) (λ s h. rise_in z s some)
    (λ s t p q order hp hq same made greater.
    order.0 (sym (shape_is z s p hp) ∙ same ∙ shape_is z t q hq)))

-- ---- the other plan

is_within : (z : MenuSizes) (b : Bounds) (p : Plan) → IsPlanOf z b p → IsPlanOf z b (other_of p)
is_within z b p is =
    let setup = take p.shape.setup p.calls in
    let rest = drop p.shape.setup p.calls in
    let others = exchanged_calls 0 [] p.shape.threads rest in
    let whole : setup ++ rest ≡ p.calls = take-append-drop p.shape.setup p.calls in
    let many : length (setup ++ others) ≡ length p.calls =
    omega (
      arith,
      length-append setup others,
      long 0 [] p.shape.threads rest,
      length-append setup rest,
      ap length whole,
    ) in
    let has : length setup ≡ p.shape.setup = setup_calls_long p is.many in
    let first : take p.shape.setup (setup ++ others) ≡ setup =
    ap (λ k. take k (setup ++ others)) (sym has) ∙ take-append_seam setup others in
    let second : drop p.shape.setup (setup ++ others) ≡ others =
    ap (λ k. drop k (setup ++ others)) (sym has) ∙ drop-append_seam setup others in
    record {
      shape = is.shape;
      many = many ∙ is.many;
      made = is.made;
      setup = subst (All (IsPlace z.setup)) (sym first) is.setup;
      threads = subst (All (IsPlace z.threads)) (sym second)
          (all (IsPlace z.threads) 0 [] p.shape.threads rest (All-nil (IsPlace z.threads)) is.threads);
    }

is_less : (p : Plan) → is_exchanged p ≡ true → is_greater p.calls (other_of p).calls ≡ true
is_less p exchanged =
    let setup = take p.shape.setup p.calls in
    let rest = drop p.shape.setup p.calls in
    let others = exchanged_calls 0 [] p.shape.threads rest in
    subst (λ l. is_greater l (setup ++ others) ≡ true) (take-append-drop p.shape.setup p.calls)
    (greater_past setup rest others (less 0 [] p.shape.threads rest exchanged))

some_is : {X : Type 0} {x y : X} → Some x ≡ Some y → x ≡ y
some_is e = cc

pub other_stands_before : OtherStandsBefore
other_stands_before z b n p some calls there exchanged =
    let xs = plans (family_of z b) in
    let inside : n < length xs = slice_get_within xs n p there in
    let at : (d : Plan) → slice_index_or xs n d ≡ p = λ d. some_is (sym (slice_get-get_or xs n d inside) ∙ there) in
    let is : IsPlanOf z b p = (each_belongs z b p some calls).0 (n, inside, at p) in
    let other = (each_belongs z b (other_of p) some calls).1 (is_within z b p is) in
    let m = other.0 in
    let less = is_less p exchanged in
    let later : n < m → ⊥ =
    λ below. rise z b some calls n m (other_of p) below other.1 (ap (λ (q : Plan). q.shape) (at (other_of p)) ∙
    sym (ap (λ (q : Plan). q.shape) other.2))
    (ap (λ (q : Plan). q.making) (at (other_of p)) ∙ sym (ap (λ (q : Plan). q.making) other.2))
    (ap (λ (q : Plan). is_greater q.calls (slice_index_or xs m (other_of p)).calls) (at (other_of p)) ∙
    ap (λ (q : Plan). is_greater p.calls q.calls) other.2 ∙ less) in
    let apart : n ≡ m → ⊥ =
    λ same. greater_self p.calls (subst (λ (q : Plan). is_greater p.calls q.calls ≡ true)
    (sym other.2 ∙ ap (λ k. slice_index_or xs k (other_of p)) (sym same) ∙ at (other_of p)) less) in
    let before : m < n = elim (cases_lt m n) [
      | inl lt ↦ lt
      | inr past ↦ elim (cases_lt n m) [
        | inl lt ↦ absurd (later lt)
        | inr over ↦ absurd (apart (omega (arith, past, over)))
      ]
    ] in
    (m, before, slice_get-get_or xs m (other_of p) other.1 ∙ ap (λ (q : Plan). Some q) other.2)
