-- The shapes within bounds: which they are, and in which order.
use Rattle.std.proofs.Common.{◌≡◌, ◌≢◌, ◌∙◌, ◌+◌, ◌-◌, ◌*◌, ◌^◌, ◌<◌, ◌≤◌, ◌&&◌, ◌==◌, inl, inr, ℕ, Bool, true, false}
use Rattle.std.proofs.Common.{List, [], ◌∷◌, length, map, refl, sym, ap, subst, arith, sum}
use Rattle.std.specs.Prelude.{All}
use Rattle.std.specs.List.{range_with_len}
use Rattle.std.proofs.Math.Nat.{mul-le-mul_right}
use Rattle.std.proofs.lemmas.Bool.{eq-eqb, eqb-true, true≢false}
use Rattle.std.proofs.lemmas.List.Elements.{All-contains, All-weaker}
use Rattle.std.proofs.lemmas.List.Sums.{sum_by-cons, sum_by-le}
use Rattle.ls_families.specs.Shapes.{Shape, but_setup, calls_of, fewest, fits, rises, shape_of, shapes, with_calls}
use Rattle.ls_families.specs.Shapes.{with_setup, with_threads}
use Rattle.ls_families.specs.Belonging.{IsPlace, IsShapeOf}
use Rattle.ls_families.specs.declared.shapes.Bounds.{Bounds}
use Rattle.ls_families.proofs.Members.{In, Pairs, contains_from_in, from_filter, from_map, from_piece, from_range}
use Rattle.ls_families.proofs.Members.{pairs_filter, pairs_map, pairs_pieces, pairs_range, pairs_weaker, to_filter}
use Rattle.ls_families.proofs.Members.{to_map, to_piece, to_range}
use Rattle.ls_families.proofs.Numbers.{choices_differ, choices_long, choices_within, have_number}

-- ---- what fits

fits_is : (total : ℕ) (s : Shape) → fits total s ≡ true → (rises 0 s.threads ≡ true) × (calls_of s ≡ total)
fits_is total s h = go (rises 0 s.threads) refl h
  where
    go : (b : Bool) →
        rises 0 s.threads ≡ b →
        (b && (calls_of s == total)) ≡ true →
        (rises 0 s.threads ≡ true) × (calls_of s ≡ total)
    go true e g = (e, eqb-true (calls_of s) total g)
    go false e g = absurd (true≢false (sym g))

is_fit : (s : Shape) → rises 0 s.threads ≡ true → fits (calls_of s) s ≡ true
is_fit s h = ap (λ b. b && (calls_of s == calls_of s)) h ∙ eq-eqb (calls_of s) (calls_of s) refl

-- ---- what is known of a shape of so many calls, with so many of the setup and so many threads

record Known (b : Bounds) (total p k : ℕ) (s : Shape) : Type 0 where
  pub calls : calls_of s ≡ total
  pub setup : s.setup ≡ p
  pub long : length s.threads ≡ k
  pub within : All (IsPlace b.calls) s.threads
  pub rising : rises 0 s.threads ≡ true

from_threads : (b : Bounds) (total p k : ℕ) (s : Shape) →
    0 < b.calls →
    In (with_threads b total p k) s →
    Known b total p k s
from_threads b total p k s some h =
    let passed = from_filter (fits total) (map (shape_of b p k) (range_with_len 0 (b.calls ^ k))) s h in
    let from = from_map (shape_of b p k) (range_with_len 0 (b.calls ^ k)) s passed.0 in
    let fit = fits_is total s passed.1 in
    record {
      calls = fit.1;
      setup = sym (ap (λ (t : Shape). t.setup) from.2);
      long = sym (ap (λ (t : Shape). length t.threads) from.2) ∙ choices_long b.calls k from.0;
      within = subst (λ (t : Shape). All (IsPlace b.calls) t.threads) from.2 (choices_within b.calls k from.0 some);
      rising = fit.0;
    }

from_setup : (b : Bounds) (total p : ℕ) (s : Shape) →
    0 < b.calls →
    In (with_setup b total p) s →
    (k : ℕ) × ((fewest b ≤ k) × (k < fewest b + (b.threads + 1 - fewest b))) × Known b total p k s
from_setup b total p s some h =
    let from = from_piece (with_threads b total p) (range_with_len (fewest b) (b.threads + 1 - fewest b)) s h in (
      from.0,
      from_range (fewest b) (b.threads + 1 - fewest b) from.0 from.1,
      from_threads b total p from.0 s some from.2,
    )

from_calls : (b : Bounds) (total : ℕ) (s : Shape) →
    0 < b.calls →
    In (with_calls b total) s →
    (p : ℕ) × (p < b.setup + 1) ×
    ((k : ℕ) × ((fewest b ≤ k) × (k < fewest b + (b.threads + 1 - fewest b))) × Known b total p k s)
from_calls b total s some h =
    let from = from_piece (but_setup b total) (range_with_len 0 (b.setup + 1 - 0)) s h in
    (b.setup - from.0, omega arith, from_setup b total (b.setup - from.0) s some from.2)

pub from_shapes : (b : Bounds) (s : Shape) → 0 < b.calls → In (shapes b) s → IsShapeOf b s
from_shapes b s some h =
    let from =
    from_piece (with_calls b) (range_with_len (fewest b) (b.setup + b.threads * b.calls + 1 - fewest b)) s h in
    let calls = from_calls b from.0 s some from.2 in
    let known = calls.2.2 in
    record {
      setup = omega (arith, known.setup, calls.1);
      two = omega (arith, known.long, calls.2.1.0);
      threads = omega (arith, known.long, calls.2.1.0, calls.2.1.1);
      calls = known.within;
      rising = known.rising;
    }

-- ---- each shape is there

no_fewer : (xs : List ℕ) → ((c : ℕ) → In xs c → 0 < c) → length xs ≤ sum xs
no_fewer [] each = omega arith
no_fewer (x ∷ xs) each =
    let more = no_fewer xs (λ c h. each c (inr h)) in
    omega (arith, sum_by-cons (λ k. k) x xs, more, each x (inl refl))

pub to_shapes : (b : Bounds) (s : Shape) → IsShapeOf b s → In (shapes b) s
to_shapes b s is =
    let each : (c : ℕ) → In s.threads c → IsPlace b.calls c =
    λ c h. All-contains (IsPlace b.calls) s.threads c is.calls (contains_from_in s.threads c h) in
    let k : ℕ = length s.threads in
    let number = have_number b.calls s.threads each in
    let same : shape_of b s.setup (length s.threads) number.0 ≡ s =
    ap (λ (l : List ℕ). record { setup = s.setup; threads = l }) number.2 in
    let made : In (map (shape_of b s.setup (length s.threads)) (range_with_len 0 (b.calls ^ length s.threads))) s =
    subst (In (map (shape_of b s.setup (length s.threads)) (range_with_len 0 (b.calls ^ length s.threads)))) same
    (to_map (shape_of b s.setup (length s.threads)) (range_with_len 0 (b.calls ^ length s.threads)) number.0
    (to_range 0 (b.calls ^ length s.threads) number.0 (omega arith) (omega (arith, number.1)))) in
    let fitting : In (with_threads b (calls_of s) s.setup (length s.threads)) s =
    to_filter (fits (calls_of s)) (map (shape_of b s.setup (length s.threads))
    (range_with_len 0 (b.calls ^ length s.threads))) s (is_fit s is.rising) made in
    let low = no_fewer s.threads (λ c h. (each c h).0) in
    let most = sum_by-le (λ k. k) b.calls s.threads
    (All-weaker (IsPlace b.calls) (λ c. c ≤ b.calls) (λ c choice. choice.1) s.threads is.calls) in
    let scaled = mul-le-mul_right b.calls is.threads in
    let back : s.setup ≡ b.setup - (b.setup - s.setup) = omega (arith, is.setup) in
    to_piece (with_calls b) (range_with_len (fewest b) (b.setup + b.threads * b.calls + 1 - fewest b)) (calls_of s) s
    (to_range (fewest b) (b.setup + b.threads * b.calls + 1 - fewest b) (calls_of s) (omega (arith, low, is.two))
    (omega (arith, most, scaled, is.setup, low, is.two)))
    (to_piece (but_setup b (calls_of s)) (range_with_len 0 (b.setup + 1 - 0)) (b.setup - s.setup) s
    (to_range 0 (b.setup + 1 - 0) (b.setup - s.setup) (omega arith) (omega arith))
    (subst (λ p. In (with_setup b (calls_of s) p) s) back
    (to_piece (with_threads b (calls_of s) s.setup) (range_with_len (fewest b) (b.threads + 1 - fewest b))
    (length s.threads) s
    (to_range (fewest b) (b.threads + 1 - fewest b) (length s.threads) is.two (omega (arith, is.threads, is.two)))
    fitting)))

-- ---- none stands twice, and fewer calls come first

abbrev Differ : Shape → Shape → Type 0
Differ s t = s ≢ t

apart_threads : (b : Bounds) (total p k : ℕ) → 0 < b.calls → Pairs Differ (with_threads b total p k)
apart_threads b total p k some =
    pairs_filter Differ (fits total) (map (shape_of b p k) (range_with_len 0 (b.calls ^ k)))
    (pairs_map (λ i j. i < j) Differ (shape_of b p k) (range_with_len 0 (b.calls ^ k)) (pairs_range 0 (b.calls ^ k))
    (λ i j hi hj below same.
    let low = from_range 0 (b.calls ^ k) i hi in
    let high = from_range 0 (b.calls ^ k) j hj in
    let equal = choices_differ b.calls k i j some (omega (arith, low.1)) (omega (arith, high.1))
    (ap (λ (t : Shape). t.threads) same) in
    omega (arith, below, equal)))

apart_setup : (b : Bounds) (total p : ℕ) → 0 < b.calls → Pairs Differ (with_setup b total p)
apart_setup b total p some =
    pairs_pieces (λ i j. i < j) Differ (with_threads b total p) (range_with_len (fewest b) (b.threads + 1 - fewest b))
    (pairs_range (fewest b) (b.threads + 1 - fewest b)) (λ k h. apart_threads b total p k some)
    (λ i j s t below hs ht same.
    let first = from_threads b total p i s some hs in
    let second = from_threads b total p j t some ht in
    omega (arith, below, first.long, second.long, ap (λ (u : Shape). length u.threads) same))

apart_calls : (b : Bounds) (total : ℕ) → 0 < b.calls → Pairs Differ (with_calls b total)
apart_calls b total some =
    pairs_pieces Later Differ (but_setup b total) (range_with_len 0 (b.setup + 1 - 0))
    (pairs_weaker (λ i j. i < j) Later (range_with_len 0 (b.setup + 1 - 0)) (pairs_range 0 (b.setup + 1 - 0))
    (λ i j hi hj below. (below, omega (arith, (from_range 0 (b.setup + 1 - 0) j hj).1))))
    (λ i h. apart_setup b total (b.setup - i) some)
    (λ i j s t later hs ht same.
    let first = from_setup b total (b.setup - i) s some hs in
    let second = from_setup b total (b.setup - j) t some ht in
    omega (arith, later.0, later.1, first.2.setup, second.2.setup, ap (λ (u : Shape). u.setup) same))
  where
    Later : ℕ → ℕ → Type 0
    Later i j = (i < j) × (j ≤ b.setup)

-- two shapes, the first of no more calls
abbrev pub InOrder : Shape → Shape → Type 0
InOrder s t = (s ≢ t) × (calls_of s ≤ calls_of t)

pub shapes_in_order : (b : Bounds) → 0 < b.calls → Pairs InOrder (shapes b)
shapes_in_order b some =
    pairs_pieces (λ i j. i < j) InOrder (with_calls b)
    (range_with_len (fewest b) (b.setup + b.threads * b.calls + 1 - fewest b))
    (pairs_range (fewest b) (b.setup + b.threads * b.calls + 1 - fewest b))
    (λ total h. pairs_weaker Differ InOrder (with_calls b total) (apart_calls b total some)
    (λ s t hs ht differ.
    let first = from_calls b total s some hs in
    let second = from_calls b total t some ht in
    (differ, omega (arith, first.2.2.calls, second.2.2.calls))))
    (λ i j s t below hs ht.
    let first = from_calls b i s some hs in
    let second = from_calls b j t some ht in (
      (λ same. omega (arith, below, first.2.2.calls, second.2.2.calls, ap calls_of same)),
      omega (arith, below, first.2.2.calls, second.2.2.calls),
    ))
