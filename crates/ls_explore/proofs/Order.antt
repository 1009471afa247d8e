-- Rows in order, no two with one history.
use Rattle.std.proofs.Common.{◌≡◌, ◌≢◌, ◌⊎◌, inl, inr, ℕ, zero, suc, ◌<◌, ◌≤◌, List, [], ◌∷◌, ◌++◌, length, Some, refl}
use Rattle.std.proofs.Common.{sym, ap, ◌∙◌, subst, arith, slice_get, slice_set, slice_index_or, swap, IsPermutation}
use Rattle.std.specs.Cmp.{IsTotalOrder}
use Rattle.std.proofs.lemmas.Bool.{cases_lt}
use Rattle.std.proofs.lemmas.Cmp.{nat_cmp_total, nat_list_cmp_total, on_total, then_total}
use Rattle.std.proofs.lemmas.List.Quantifiers.{all_pairs_push}
use Rattle.std.proofs.lemmas.List.Sorted.{IsPermutation-keeps}
use Rattle.ls_preservation.proofs.Lists.{get_within, length-set, set_other, set_same}
use Rattle.std.specs.Prelude.{Contains}
use Rattle.ls_explore.specs.Rows.{AreApart, Told, row_order}

pub order_total : IsTotalOrder row_order
order_total = then_total (on_total (λ (r : Told). length r.path) nat_cmp_total)
    (on_total (λ (r : Told). r.path) nat_list_cmp_total)

-- ---- no two rows have one history, by place

index_at : {A : Type 0} (xs : List A) (n : ℕ) (d : A) → n < length xs → slice_get xs n ≡ Some (slice_index_or xs n d)
index_at [] n d h = absurd (omega arith)
index_at (x ∷ xs) zero d h = refl
index_at (x ∷ xs) (suc n) d h = index_at xs n d (omega arith)

any_default : {A : Type 0} (xs : List A) (n : ℕ) (d e : A) →
    n < length xs →
    slice_index_or xs n d ≡ slice_index_or xs n e
any_default [] n d e h = absurd (omega arith)
any_default (x ∷ xs) zero d e h = refl
any_default (x ∷ xs) (suc n) d e h = any_default xs n d e (omega arith)

is_or_not : (m n : ℕ) → (m ≡ n) ⊎ (m ≡ n → ⊥)
is_or_not m n = by_less (cases_lt m n) (cases_lt n m)
  where
    by_less : (m < n) ⊎ (n ≤ m) → (n < m) ⊎ (m ≤ n) → (m ≡ n) ⊎ (m ≡ n → ⊥)
    by_less (inl less) other = inr (λ e. absurd (omega arith))
    by_less (inr le) (inl less) = inr (λ e. absurd (omega arith))
    by_less (inr le) (inr ge) = inl (omega arith)

-- where what stands at a place after an exchange stood before it
Moved : ℕ → ℕ → ℕ → ℕ → Type 0
Moved i j k m = ((k ≡ j) × (m ≡ i)) ⊎ (((k ≡ j → ⊥) × (k ≡ i) × (m ≡ j)) ⊎ ((k ≡ j → ⊥) × (k ≡ i → ⊥) × (m ≡ k)))

one_place : (i j k n m : ℕ) → Moved i j k m → Moved i j n m → k ≡ n
unfolding Moved
one_place i j k n m (inl a) (inl b) = a.0 ∙ sym b.0
one_place i j k n m (inl a) (inr (inl b)) = absurd (b.0 (b.1 ∙ sym a.1 ∙ b.2))
one_place i j k n m (inl a) (inr (inr b)) = absurd (b.1 (sym b.2 ∙ a.1))
one_place i j k n m (inr (inl a)) (inl b) = absurd (a.0 (a.1 ∙ sym b.1 ∙ a.2))
one_place i j k n m (inr (inl a)) (inr (inl b)) = a.1 ∙ sym b.1
one_place i j k n m (inr (inl a)) (inr (inr b)) = absurd (b.0 (sym b.2 ∙ a.2))
one_place i j k n m (inr (inr a)) (inl b) = absurd (a.1 (sym a.2 ∙ b.1))
one_place i j k n m (inr (inr a)) (inr (inl b)) = absurd (a.0 (sym a.2 ∙ b.2))
one_place i j k n m (inr (inr a)) (inr (inr b)) = sym a.2 ∙ b.2

module _ {A : Type 0} where
  from_there : (l : List A) (d : A) (i j k : ℕ) (x : A) →
      i < length l →
      j < length l →
      slice_get (slice_set (slice_set l i (slice_index_or l j d)) j (slice_index_or l i d)) k ≡ Some x →
      (m : ℕ) × (slice_get l m ≡ Some x) × Moved i j k m
  unfolding Moved
  from_there l d i j k x lti ltj at = by_last (is_or_not k j)
    where
      first : List A
      first = slice_set l i (slice_index_or l j d)

      by_first : (k ≡ j → ⊥) →
          (k ≡ i) ⊎ (k ≡ i → ⊥) →
          slice_get first k ≡ Some x →
          (m : ℕ) × (slice_get l m ≡ Some x) × Moved i j k m
      by_first apart (inl e) here = (
        j,
        index_at l j d ltj ∙
            sym (set_same l i (slice_index_or l i d) (slice_index_or l j d) (index_at l i d lti)) ∙
            ap (slice_get first) (sym e) ∙ here,
        inr (inl (apart, e, refl)),
      )
      by_first apart (inr n) here = (
        k,
        sym (set_other l i k (slice_index_or l j d) n) ∙ here,
        inr (inr (apart, n, refl)),
      )

      by_last : (k ≡ j) ⊎ (k ≡ j → ⊥) → (m : ℕ) × (slice_get l m ≡ Some x) × Moved i j k m
      by_last (inl e) =
          let less : j < length first = omega (arith, length-set l i (slice_index_or l j d)) in (
            i,
            index_at l i d lti ∙ sym (set_same first j (slice_index_or first j d) (slice_index_or l i d)
                (index_at first j d less)) ∙ ap (slice_get (slice_set first j (slice_index_or l i d))) (sym e) ∙ at,
            inl (e, refl),
          )
      by_last (inr n) = by_first n (is_or_not k i) (sym (set_other first j k (slice_index_or l i d) n) ∙ at)

  was_there : (l : List A) (i j k : ℕ) (x : A) →
      i < length l →
      j < length l →
      slice_get (swap l i j) k ≡ Some x →
      (m : ℕ) × (slice_get l m ≡ Some x) × Moved i j k m
  was_there [] i j k x lti ltj at = absurd (omega arith)
  was_there (d ∷ l) i j k x lti ltj at = from_there (d ∷ l) d i j k x lti ltj at

-- two places with one history are one place
Apart : List Told → Type 0
Apart rows = (i j : ℕ) (r s : Told) → slice_get rows i ≡ Some r → slice_get rows j ≡ Some s → r.history ≡ s.history →
    i ≡ j

apart_swap : (l : List Told) (i j : ℕ) → i < length l → j < length l → Apart l → Apart (swap l i j)
unfolding Apart
apart_swap l i j lti ltj h k n r s at_k at_n same =
    let a = was_there l i j k r lti ltj at_k in
    let b = was_there l i j n s lti ltj at_n in
    let e : a.0 ≡ b.0 = h a.0 b.0 r s a.1 b.1 same in
    one_place i j k n b.0 (subst (Moved i j k) e a.2) b.2

to_places : (rows : List Told) → AreApart rows → Apart rows
unfolding Apart
to_places rows h i j r s at_i at_j same = by_less (cases_lt i j) (cases_lt j i)
  where
    some_is : {A : Type 0} {x y : A} → Some x ≡ Some y → x ≡ y
    some_is h = cc

    or_is : (k : ℕ) (x : Told) → slice_get rows k ≡ Some x → slice_index_or rows k r ≡ x
    or_is k x at = some_is (sym (index_at rows k r (get_within rows k x at)) ∙ at)

    apart : (a b : ℕ) (x y : Told) →
        slice_get rows a ≡ Some x →
        slice_get rows b ≡ Some y →
        x.history ≡ y.history →
        a < b →
        ⊥
    apart a b x y at_a at_b e less =
        h a b r less (get_within rows b y at_b)
        (ap (λ (z : Told). z.history) (or_is a x at_a) ∙ e ∙ ap (λ (z : Told). z.history) (sym (or_is b y at_b)))

    by_less : (i < j) ⊎ (j ≤ i) → (j < i) ⊎ (i ≤ j) → i ≡ j
    by_less (inl less) other = absurd (apart i j r s at_i at_j same less)
    by_less (inr le) (inl less) = absurd (apart j i s r at_j at_i (sym same) less)
    by_less (inr le) (inr ge) = omega arith

of_places : (rows : List Told) → Apart rows → AreApart rows
unfolding Apart
of_places rows h i j d less within same =
    let e : i ≡ j = h i j (slice_index_or rows i d) (slice_index_or rows j d) (index_at rows i d (omega arith))
    (index_at rows j d within) same in
    absurd (omega arith)

-- rows in another order are apart where these are
pub apart_kept : (old new : List Told) → IsPermutation old new → AreApart old → AreApart new
apart_kept old new perm h = of_places new (IsPermutation-keeps old Apart (to_places old h)
    (λ l i j lti ltj a. apart_swap l i j lti ltj a) new perm)

-- one row more, of a history that none of them has
pub apart_more : (old new : List Told) (r : Told) →
    new ≡ old ++ r ∷ [] →
    ((x : Told) → Contains old x → x.history ≡ r.history → ⊥) →
    AreApart old →
    AreApart new
apart_more old new r more none h =
    subst AreApart (sym more) (all_pairs_push (λ (x y : Told). x.history ≢ y.history) old r h
    (λ k d lt e.
    none (slice_index_or old k d) (k, lt, any_default old k (slice_index_or old k d) d lt) e))

pub apart_none : (rows : List Told) → rows ≡ [] → AreApart rows
apart_none rows e = subst AreApart (sym e) (λ i j d less within. absurd (omega arith))
