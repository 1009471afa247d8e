-- Which programs belong to a family, and in which order.
use Rattle.std.proofs.Common.{◌≡◌, ◌≢◌, ◌∙◌, ◌+◌, ◌-◌, ◌/◌, ◌%◌, ◌^◌, ◌<◌, ◌≤◌, inl, inr, ℕ, zero, suc, List, ◌++◌}
use Rattle.std.proofs.Common.{sym, ap, subst, arith, length, drop, take, sum}
use Rattle.std.specs.Prelude.{All}
use Rattle.std.specs.List.{range_with_len}
use Rattle.std.proofs.Math.Seq.{drop-append_seam, take-append_seam}
use Rattle.std.proofs.lemmas.List.{length-append, length-take-le, take-append-drop}
use Rattle.std.proofs.lemmas.List.Elements.{All-contains}
use Rattle.std.proofs.lemmas.Nat.{mod_below}
use Rattle.ls_families.specs.Choices.{choices}
use Rattle.ls_families.specs.Shapes.{Shape, calls_of, shapes}
use Rattle.ls_families.specs.Families.{HaveNone, Plan, chosen_calls, family_of, of_setup, of_threads, plan_of, plans}
use Rattle.ls_families.specs.Families.{plans_of, size_of}
use Rattle.ls_families.specs.Belonging.{EachBelongs, IsPlace, IsPlanOf, NoneTwice}
use Rattle.ls_families.specs.declared.menus.MenuSizes.{MenuSizes}
use Rattle.ls_families.specs.declared.shapes.Bounds.{Bounds}
use Rattle.ls_families.proofs.Members.{In, Pairs, all_pairs, contains_from_in, from_map, from_piece, from_range}
use Rattle.ls_families.proofs.Members.{in_from_contains, pairs_map, pairs_pieces, pairs_range, to_map, to_piece}
use Rattle.ls_families.proofs.Members.{to_range}
use Rattle.ls_families.proofs.Numbers.{choices_differ, choices_long, choices_within, have_number}
use Rattle.ls_families.proofs.Parted.{first_below, have_parts, power_some, same_number}
use Rattle.ls_families.proofs.Formed.{InOrder, from_shapes, shapes_in_order, to_shapes}

-- ---- there is some of each

positive : (n : ℕ) → ¬ (n ≡ 0) → 0 < n
positive zero some = absurd (some (omega arith))
positive (suc n) some = omega arith

pub some_makings : (z : MenuSizes) → ¬ HaveNone z → 0 < z.makings
some_makings z some = positive z.makings (λ none. some (inl none))

pub some_setup : (z : MenuSizes) → ¬ HaveNone z → 0 < z.setup
some_setup z some = positive z.setup (λ none. some (inr (inl none)))

pub some_threads : (z : MenuSizes) → ¬ HaveNone z → 0 < z.threads
some_threads z some = positive z.threads (λ none. some (inr (inr none)))

pub some_of_setup : (z : MenuSizes) (s : Shape) → ¬ HaveNone z → 0 < of_setup z s
some_of_setup z s some = power_some z.setup s.setup (some_setup z some)

pub some_of_threads : (z : MenuSizes) (s : Shape) → ¬ HaveNone z → 0 < of_threads z s
some_of_threads z s some = power_some z.threads (sum s.threads) (some_threads z some)

-- ---- the calls that two numbers choose

pub setup_long : (z : MenuSizes) (s : Shape) (i : ℕ) → length (choices z.setup s.setup i) ≡ s.setup
setup_long z s i = choices_long z.setup s.setup i

first_calls : (z : MenuSizes) (s : Shape) (i j : ℕ) → take s.setup (chosen_calls z s i j) ≡ choices z.setup s.setup i
first_calls z s i j =
    let first = choices z.setup s.setup i in
    ap (λ k. take k (chosen_calls z s i j)) (sym (setup_long z s i)) ∙
    take-append_seam first (choices z.threads (sum s.threads) j)

other_calls : (z : MenuSizes) (s : Shape) (i j : ℕ) →
    drop s.setup (chosen_calls z s i j) ≡ choices z.threads (sum s.threads) j
other_calls z s i j =
    let first = choices z.setup s.setup i in
    ap (λ k. drop k (chosen_calls z s i j)) (sym (setup_long z s i)) ∙
    drop-append_seam first (choices z.threads (sum s.threads) j)

-- ---- what belongs

from_plans : (z : MenuSizes) (b : Bounds) (p : Plan) →
    ¬ HaveNone z →
    0 < b.calls →
    In (plans (family_of z b)) p →
    IsPlanOf z b p
from_plans z b p some calls h =
    let piece = from_piece (plans_of z) (shapes b) p h in
    let s = piece.0 in
    let from = from_map (plan_of z s) (range_with_len 0 (size_of z s)) p piece.2 in
    let r = from.0 in
    let below : r < size_of z s = omega (arith, from_range 0 (size_of z s) r from.1) in
    let i = r / of_threads z s % of_setup z s in
    let j = r % of_threads z s in
    let made : r / of_threads z s / of_setup z s < z.makings =
    first_below z.makings (of_setup z s) (of_threads z s) r (some_of_setup z s some) (some_of_threads z s some) below in
    subst (IsPlanOf z b) from.2 (record {
      shape = from_shapes b s calls piece.1;
      many = length-append (choices z.setup s.setup i) (choices z.threads (sum s.threads) j) ∙
          (λ k. setup_long z s i k + choices_long z.threads (sum s.threads) j k);
      made = (omega arith, omega (arith, made));
      setup = subst (All (IsPlace z.setup)) (sym (first_calls z s i j))
          (choices_within z.setup s.setup i (some_setup z some));
      threads = subst (All (IsPlace z.threads)) (sym (other_calls z s i j))
          (choices_within z.threads (sum s.threads) j (some_threads z some));
    })

-- the number of places among so many
numbered : (m n : ℕ) (cs : List ℕ) →
    All (IsPlace m) cs →
    length cs ≡ n →
    (r : ℕ) × (r < m ^ n) × (choices m n r ≡ cs)
numbered m n cs places long =
    let number = have_number m cs (λ c h. All-contains (IsPlace m) cs c places (contains_from_in cs c h)) in (
      number.0,
      subst (λ k. number.0 < m ^ k) long number.1,
      subst (λ k. choices m k number.0 ≡ cs) long number.2,
    )

-- the setup's calls, where there are as many calls as the shape has
pub setup_calls_long : (p : Plan) → length p.calls ≡ calls_of p.shape →
    length (take p.shape.setup p.calls) ≡ p.shape.setup
setup_calls_long p many = length-take-le p.shape.setup p.calls (omega (arith, many))

thread_calls_long : (p : Plan) → length p.calls ≡ calls_of p.shape →
    length (drop p.shape.setup p.calls) ≡ sum p.shape.threads
thread_calls_long p many =
    let first = take p.shape.setup p.calls in
    let rest = drop p.shape.setup p.calls in
    let whole : length first + length rest ≡ length p.calls =
    sym (length-append first rest) ∙ ap length (take-append-drop p.shape.setup p.calls) in
    omega (arith, whole, setup_calls_long p many, many)

to_plans : (z : MenuSizes) (b : Bounds) (p : Plan) → IsPlanOf z b p → In (plans (family_of z b)) p
to_plans z b p is =
    let s = p.shape in
    let first = numbered z.setup s.setup (take s.setup p.calls) is.setup (setup_calls_long p is.many) in
    let other = numbered z.threads (sum s.threads) (drop s.setup p.calls) is.threads (thread_calls_long p is.many) in
    let made : p.making - 1 < z.makings = omega (arith, is.made.0, is.made.1) in
    let parts = have_parts z.makings (of_setup z s) (of_threads z s) (p.making - 1) first.0 other.0 made first.1 other.1
    in
    let r = parts.0 in
    let making : r / of_threads z s / of_setup z s + 1 ≡ p.making = omega (arith, parts.1.first, is.made.0) in
    let chosen : chosen_calls z s (r / of_threads z s % of_setup z s) (r % of_threads z s) ≡ p.calls =
    (λ k. chosen_calls z s (parts.1.second k) (parts.1.third k)) ∙ (λ k. first.2 k ++ other.2 k) ∙
    take-append-drop s.setup p.calls in
    let same : plan_of z s r ≡ p = λ k. record { shape = s; making = making k; calls = chosen k } in
    to_piece (plans_of z) (shapes b) s p (to_shapes b s is.shape)
    (subst (In (plans_of z s)) same
    (to_map (plan_of z s) (range_with_len 0 (size_of z s)) r
    (to_range 0 (size_of z s) r (omega arith) (omega (arith, parts.1.below)))))

pub each_belongs : EachBelongs
each_belongs z b p some calls = (
  (λ there. from_plans z b p some calls (in_from_contains (plans (family_of z b)) p there)),
  (λ is. contains_from_in (plans (family_of z b)) p (to_plans z b p is)),
)

-- ---- none stands twice

-- the same calls are chosen by the same numbers
same_chosen : (z : MenuSizes) (s : Shape) (i j k l : ℕ) →
    ¬ HaveNone z →
    i < of_setup z s → k < of_setup z s → j < of_threads z s → l < of_threads z s →
    chosen_calls z s i j ≡ chosen_calls z s k l →
    (i ≡ k) × (j ≡ l)
same_chosen z s i j k l some low high less more same = (
  choices_differ z.setup s.setup i k (some_setup z some) low high
      (sym (first_calls z s i j) ∙ ap (take s.setup) same ∙ first_calls z s k l),
  choices_differ z.threads (sum s.threads) j l (some_threads z some) less more
      (sym (other_calls z s i j) ∙ ap (drop s.setup) same ∙ other_calls z s k l),
)

-- the programs of two numbers of a shape are the same by the number alone
plans_differ : (z : MenuSizes) (s : Shape) (r t : ℕ) → ¬ HaveNone z → plan_of z s r ≡ plan_of z s t → r ≡ t
plans_differ z s r t some same =
    let of = of_threads z s in
    let off = of_setup z s in
    let low : (n : ℕ) → n % off < off = λ n. mod_below n off (some_of_setup z s some) in
    let less : (n : ℕ) → n % of < of = λ n. mod_below n of (some_of_threads z s some) in
    let making : r / of / off ≡ t / of / off = omega (arith, ap (λ (p : Plan). p.making) same) in
    let parts = same_chosen z s (r / of % off) (r % of) (t / of % off) (t % of) some (low (r / of)) (low (t / of))
    (less r) (less t) (ap (λ (p : Plan). p.calls) same) in
    same_number off of r t making parts.0 parts.1

-- two programs, the first of no more calls
abbrev Before : Plan → Plan → Type 0
Before p q = (p ≢ q) × (calls_of p.shape ≤ calls_of q.shape)

one_shape : (z : MenuSizes) (s : Shape) → ¬ HaveNone z → Pairs Before (plans_of z s)
one_shape z s some =
    pairs_map (λ i j. i < j) Before (plan_of z s) (range_with_len 0 (size_of z s))
    (pairs_range 0 (size_of z s))
    (λ i j hi hj below. (
      (λ same.
          let equal = plans_differ z s i j some same in
          omega (arith, below, equal)),
      omega arith,
    ))

pub shape_is : (z : MenuSizes) (s : Shape) (p : Plan) → In (plans_of z s) p → p.shape ≡ s
shape_is z s p h =
    let from = from_map (plan_of z s) (range_with_len 0 (size_of z s)) p h in
    sym (ap (λ (q : Plan). q.shape) from.2)

pub none_twice : NoneTwice
none_twice z b some calls =
    all_pairs Before (plans (family_of z b))
    (pairs_pieces InOrder Before (plans_of z) (shapes b) (shapes_in_order b calls) (λ s h. one_shape z s some)
    (λ s t p q order hp hq.
    let first = shape_is z s p hp in
    let second = shape_is z t q hq in (
      (λ same. order.0 (sym first ∙ ap (λ (r : Plan). r.shape) same ∙ second)),
      omega (arith, order.1, ap calls_of first, ap calls_of second),
    )))
