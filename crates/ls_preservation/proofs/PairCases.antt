-- The acting cases of markables.
use Rattle.std.proofs.Common.{◌≡◌, ◌≢◌, ◌⊎◌, inl, inr, ℕ, zero, suc, ◌+◌, ◌*◌, ◌/◌, ◌<◌, ◌≤◌, ◌^◌, ◌==◌, Bool, true}
use Rattle.std.proofs.Common.{false, ◌&&◌, List, length, Some, refl, sym, ap, ◌∙◌, arith, slice_get, nat_eq}
use Rattle.std.proofs.Common.{if◌then◌else◌}
use Rattle.std.proofs.lemmas.Bool.{eq-eqb}
use Rattle.std.proofs.lemmas.Bool.Decides.{eqb_tells, nat_tests}
use Rattle.ls_code.specs.Limits.{most_cells}
use Rattle.ls_events.specs.declared.value.Value.{Value}
use Rattle.ls_events.specs.declared.value.Value.TheVariants.{Int, Boolean, Reference, Pair}
use Rattle.ls_events.specs.declared.value.ValueType.{ValueType}
use Rattle.ls_events.specs.declared.value.ValueType.TheVariants as type
use Rattle.ls_events.specs.declared.action.Action.{Action}
use Rattle.ls_events.specs.declared.action.Action.TheVariants.{ReadPair, SetPair, SwapPair, AttemptMark}
use Rattle.ls_events.specs.declared.action.Answer.{Answer}
use Rattle.ls_events.specs.declared.action.Answer.TheVariants.{Done, Gives}
use Rattle.ls_checked.specs.CheckedTree.{Class}
use Rattle.ls_meaning.specs.declared.sort.Sort.{Sort}
use Rattle.ls_meaning.specs.declared.sort.Sort.TheVariants.{NoValue, ValueOf, PairOf}
use Rattle.ls_meaning.specs.Store.{Thing, Object, LockOf, Markable, Array, Store}
use Rattle.ls_meaning.specs.Effect.{Effect, Leaves, on_thing, put_back, same_mark}
use Rattle.ls_meaning.specs.Threads.{Goes}
use Rattle.ls_code.specs.Words.{bool_word, pair_word}
use Rattle.ls_code.specs.Cells.{Cells, on_cell}
use Rattle.ls_code.specs.Cells as machine
use Rattle.ls_preservation.specs.InWords.{written, map_answer}
use Rattle.ls_preservation.specs.Sorts.{Refers, HasSortBy, Suits}
use Rattle.ls_preservation.specs.Same.{total}
use Rattle.ls_preservation.proofs.Lists.{get_within}
use Rattle.ls_preservation.proofs.Cells.{length_all, address_one, offset_below}
use Rattle.ls_preservation.proofs.Effects.{ThingHas, things_length, many_length, renaming, Holds, Agrees}
use Rattle.ls_preservation.proofs.FieldCases.{on_is, back_is}
use Rattle.ls_preservation.proofs.FieldCases as cases

-- a pair's word
differ : (a b : ℕ) → a ≢ b → (a == b) ≡ false
differ a b d = grind (arith, nat_tests)

tests_on : (x y r er i j : ℕ) (q : Bool) →
    (x ≡ y → r ≡ er) →
    (r ≡ er → x ≡ y) →
    i ≤ 1 →
    j ≤ 1 →
    (i ≡ j → q ≡ true) →
    (i ≢ j → q ≡ false) →
    (((r == er) ≡ true) × (r ≡ er)) ⊎ (((r == er) ≡ false) × (r ≢ er)) →
    (((i == j) ≡ true) × (i ≡ j)) ⊎ (((i == j) ≡ false) × (i ≢ j)) →
    (2 * x + i == 2 * y + j) ≡ (r == er && q)
tests_on x y r er i j q f g hi hj same other (inl a) (inl b) =
    let e : x ≡ y = g a.1 in let e1 : (2 * x + i == 2 * y + j) ≡ true = eq-eqb (2 * x + i) (2 * y + j) (omega arith) in
    e1 ∙ sym (same b.1) ∙ ap (λ t. t && q) (sym a.0)
tests_on x y r er i j q f g hi hj same other (inl a) (inr b) =
    let e : x ≡ y = g a.1 in let d : i ≢ j = b.1 in let d1 : 2 * x + i ≢ 2 * y + j = omega arith in
    differ (2 * x + i) (2 * y + j) d1 ∙ sym (other b.1) ∙ ap (λ t. t && q) (sym a.0)
tests_on x y r er i j q f g hi hj same other (inr a) b =
    let d : x ≢ y = λ e. a.1 (f e) in let d1 : 2 * x + i ≢ 2 * y + j = omega arith in
    differ (2 * x + i) (2 * y + j) d1 ∙ ap (λ t. t && q) (sym a.0)

two_tests : (x y r er i j : ℕ) (q : Bool) →
    (x ≡ y → r ≡ er) →
    (r ≡ er → x ≡ y) →
    i ≤ 1 →
    j ≤ 1 →
    (i ≡ j → q ≡ true) →
    (i ≢ j → q ≡ false) →
    (2 * x + i == 2 * y + j) ≡ (r == er && q)
two_tests x y r er i j q f g hi hj same other = tests_on x y r er i j q f g hi hj same other (eqb_tells r er)
    (eqb_tells i j)

-- a small reference has room beside its mark
plain : (k : ℕ) (m : Bool) → k < 2 ^ 32 → pair_word k (bool_word m) ≡ 2 * k + bool_word m
plain k true h = omega arith
plain k false h = omega arith

half : (k : ℕ) (m : Bool) → k < 2 ^ 32 → pair_word k (bool_word m) / 2 ≡ k
half k true h = omega arith
half k false h = omega arith

module _ (classes : List Class) (named : List ValueType) (sizes : List ℕ) (room : ℕ) (small : room ≤ most_cells)
    (σ : List ValueType) (st : Store) (c : Cells) (holds : Holds classes named sizes room σ st c) where
  open cases.laws classes named sizes room σ st c holds use {agree_at, unchanged, one_cell, cell_is, write_is}

  abbrev ρ : ℕ → ℕ
  ρ = renaming (length named) st

  abbrev Agree : Action Value → Sort → Effect → machine.Effect → Type 0
  Agree a s e d = Agrees classes named sizes room σ st a s e d

  -- an address is small
  address_small : (r k : ℕ) → Refers σ r (type.Class k) → ρ r < 2 ^ 32
  address_small zero k h = omega arith
  address_small (suc n) k h =
      let within : n < length st.things = omega (
        arith,
        get_within σ n (type.Class k) h,
        things_length classes σ st.things σ holds.typed,
      ) in
      let long : length c.words ≡ length st.names + total st.things = ap length holds.words ∙
      length_all ρ st.names st.things in
      omega (arith, offset_below st.things n within, holds.within, many_length σ st.names named holds.names)

  pub pair_case : (t n k : ℕ) →
      (o : Thing) →
      slice_get st.things n ≡ Some o →
      ThingHas classes σ o (type.Markable k) →
      Agree (ReadPair (suc n)) (PairOf k) (on_thing st (suc n) t (ReadPair (suc n)))
      (machine.effect c t (ReadPair (ρ (suc n))))
  pair_case t n k (Markable v) at has =
      agree_at (ReadPair (suc n)) (PairOf k) _ _ _ _ (on_is st n t (ReadPair (suc n)) (Markable v) at ∙
      back_is st n (Markable v) (Gives v))
      (ap (λ z. on_cell z (λ word. machine.Answers c (Gives word)))
      (cell_is n 0 (written ρ v) (Markable v) at (omega arith) refl))
      (unchanged (ReadPair (suc n)) (PairOf k) n (Markable v) (Gives v) (Gives (written ρ v)) at has refl)
  pair_case t n k (Object _ vs) at has = absurd has
  pair_case t n k (LockOf _) at has = absurd has
  pair_case t n k (Array m items) at has = absurd has

  set_cell : (a : Action Value) (s : Sort) (n k : ℕ) (v u : Value) (x : Answer Value) (w : Answer ℕ) →
      slice_get σ n ≡ Some (type.Markable k) →
      HasSortBy (Refers σ) v (PairOf k) →
      slice_get st.things n ≡ Some (Markable u) →
      Suits (Refers σ) (Goes a s) x →
      w ≡ map_answer (written ρ) x →
      Agree a s (put_back st (suc n) (Leaves (Markable v) x)) (machine.written c (ρ (suc n)) 0 (written ρ v) w)
  set_cell a s n k v u x w sort hv at suit word =
      agree_at a s _ _ _ _ (back_is st n (Markable v) x) (write_is n 0 (written ρ v) (Markable u) w at (omega arith))
      (one_cell n 0 (written ρ v) (Markable u) (Markable v) (type.Markable k) at sort hv refl (omega arith) refl a s x w
      suit word)

  -- a pair is set
  pub set_case : (t n k : ℕ) (v : Value) →
      slice_get σ n ≡ Some (type.Markable k) →
      HasSortBy (Refers σ) v (PairOf k) →
      (o : Thing) →
      slice_get st.things n ≡ Some o →
      ThingHas classes σ o (type.Markable k) →
      Agree (SetPair (suc n) v) NoValue (on_thing st (suc n) t (SetPair (suc n) v))
      (machine.effect c t (SetPair (ρ (suc n)) (written ρ v)))
  set_case t n k v sort hv (Markable u) at has =
      agree_at (SetPair (suc n) v) NoValue _ _ _ (machine.effect c t (SetPair (ρ (suc n)) (written ρ v)))
      (on_is st n t (SetPair (suc n) v) (Markable u) at) refl
      (set_cell (SetPair (suc n) v) NoValue n k v u Done Done sort hv at refl refl)
  set_case t n k v sort hv (Object _ vs) at has = absurd has
  set_case t n k v sort hv (LockOf _) at has = absurd has
  set_case t n k v sort hv (Array m items) at has = absurd has

  pair_eq : (r er : ℕ) (m em : Bool) → (2 * ρ r + bool_word m == 2 * ρ er + bool_word em) ≡ (r == er && same_mark m em)
  pair_eq r er false false = two_tests (ρ r) (ρ er) r er 0 0 true (address_one (length named) st.things r er) (ap ρ)
      (omega arith) (omega arith) (λ e. refl) (λ d. absurd (d refl))
  pair_eq r er true true = two_tests (ρ r) (ρ er) r er 1 1 true (address_one (length named) st.things r er) (ap ρ)
      (omega arith) (omega arith) (λ e. refl) (λ d. absurd (d refl))
  pair_eq r er false true = two_tests (ρ r) (ρ er) r er 0 1 false (address_one (length named) st.things r er) (ap ρ)
      (omega arith) (omega arith) (λ e. absurd (omega arith)) (λ d. refl)
  pair_eq r er true false = two_tests (ρ r) (ρ er) r er 1 0 false (address_one (length named) st.things r er) (ap ρ)
      (omega arith) (omega arith) (λ e. absurd (omega arith)) (λ d. refl)

  swap_eq : (r er k : ℕ) (m em : Bool) →
      Refers σ r (type.Class k) →
      Refers σ er (type.Class k) →
      (written ρ (Pair r m) == written ρ (Pair er em)) ≡ (r == er && same_mark m em)
  swap_eq r er k m em h g =
      ap (λ w. w == written ρ (Pair er em)) (plain (ρ r) m (address_small r k h)) ∙
      ap (λ w. 2 * ρ r + bool_word m == w) (plain (ρ er) em (address_small er k g)) ∙ pair_eq r er m em

  -- a pair is set if a test holds, and else left as it is
  set_where : (a : Action Value) (n k : ℕ) (v u : Value) →
      slice_get σ n ≡ Some (type.Markable k) →
      HasSortBy (Refers σ) v (PairOf k) →
      slice_get st.things n ≡ Some (Markable u) →
      (b : Bool) →
      Agree a (ValueOf type.Boolean) (put_back st (suc n) (if b then Leaves (Markable v) (Gives (Boolean true)) else
      Leaves (Markable u) (Gives (Boolean false)))) (if b then
      machine.written c (ρ (suc n)) 0 (written ρ v) (Gives 1) else machine.Answers c (Gives 0))
  set_where a n k v u sort hv at true = set_cell a (ValueOf type.Boolean) n k v u (Gives (Boolean true)) (Gives 1) sort
      hv at tt refl
  set_where a n k v u sort hv at false =
      agree_at a (ValueOf type.Boolean) _ _ _ (machine.Answers c (Gives 0))
      (back_is st n (Markable u) (Gives (Boolean false))) refl
      (unchanged a (ValueOf type.Boolean) n (Markable u) (Gives (Boolean false)) (Gives 0) at tt refl)

  -- compareAndSet
  pub swap_case : (t n k : ℕ) (e v : Value) →
      slice_get σ n ≡ Some (type.Markable k) →
      HasSortBy (Refers σ) e (PairOf k) →
      HasSortBy (Refers σ) v (PairOf k) →
      (o : Thing) →
      slice_get st.things n ≡ Some o →
      ThingHas classes σ o (type.Markable k) →
      Agree (SwapPair (suc n) e v) (ValueOf type.Boolean) (on_thing st (suc n) t (SwapPair (suc n) e v))
      (machine.effect c t (SwapPair (ρ (suc n)) (written ρ e) (written ρ v)))
  swap_case t n k (Pair er em) v sort he hv (Markable (Pair r m)) at has =
      agree_at (SwapPair (suc n) (Pair er em) v) (ValueOf type.Boolean) _ _ _ _
      (on_is st n t (SwapPair (suc n) (Pair er em) v) (Markable (Pair r m)) at)
      (ap (λ z. on_cell z (λ old. if old == written ρ (Pair er em) then
      machine.written c (ρ (suc n)) 0 (written ρ v) (Gives 1) else machine.Answers c (Gives 0)))
      (cell_is n 0 (written ρ (Pair r m)) (Markable (Pair r m)) at (omega arith) refl)
      ∙ ap (λ b. if b then machine.written c (ρ (suc n)) 0 (written ρ v) (Gives 1) else machine.Answers c (Gives 0))
      (swap_eq r er k m em has he))
      (set_where (SwapPair (suc n) (Pair er em) v) n k v (Pair r m) sort hv at (r == er && same_mark m em))
  swap_case t n k (Int z) v sort he hv o at has = absurd he
  swap_case t n k (Boolean b) v sort he hv o at has = absurd he
  swap_case t n k (Reference r) v sort he hv o at has = absurd he
  swap_case t n k (Pair er em) v sort he hv (Markable _) at has = absurd has
  swap_case t n k (Pair er em) v sort he hv (Object _ vs) at has = absurd has
  swap_case t n k (Pair er em) v sort he hv (LockOf _) at has = absurd has
  swap_case t n k (Pair er em) v sort he hv (Array m items) at has = absurd has

  half_eq : (r q k : ℕ) (m : Bool) → Refers σ r (type.Class k) → (written ρ (Pair r m) / 2 == ρ q) ≡ nat_eq r q
  half_eq r q k m h = ap (λ w. w == ρ q) (half (ρ r) m (address_small r k h)) ∙ by_test (eqb_tells r q)
    where
      by_test : (((r == q) ≡ true) × (r ≡ q)) ⊎ (((r == q) ≡ false) × (r ≢ q)) → (ρ r == ρ q) ≡ nat_eq r q
      by_test (inl a) = eq-eqb (ρ r) (ρ q) (ap ρ a.1) ∙ sym a.0
      by_test (inr a) = differ (ρ r) (ρ q) (λ e. a.1 (address_one (length named) st.things r q e)) ∙ sym a.0

  -- attemptMark
  pub mark_case : (t n k q : ℕ) (m : Bool) →
      slice_get σ n ≡ Some (type.Markable k) →
      Refers σ q (type.Class k) →
      (o : Thing) →
      slice_get st.things n ≡ Some o →
      ThingHas classes σ o (type.Markable k) →
      Agree (AttemptMark (suc n) q m) (ValueOf type.Boolean) (on_thing st (suc n) t (AttemptMark (suc n) q m))
      (machine.effect c t (AttemptMark (ρ (suc n)) (ρ q) m))
  mark_case t n k q m sort hq (Markable (Pair r u)) at has =
      agree_at (AttemptMark (suc n) q m) (ValueOf type.Boolean) _ _ _ _
      (on_is st n t (AttemptMark (suc n) q m) (Markable (Pair r u)) at)
      (ap (λ z. on_cell z (λ old. if old / 2 == ρ q then machine.written c (ρ (suc n)) 0 (pair_word (ρ q) (bool_word m))
      (Gives 1) else machine.Answers c (Gives 0))) (cell_is n 0 (written ρ (Pair r u)) (Markable (Pair r u)) at
      (omega arith) refl)
      ∙ ap (λ b. if b then machine.written c (ρ (suc n)) 0 (pair_word (ρ q) (bool_word m)) (Gives 1) else
      machine.Answers c (Gives 0)) (half_eq r q k u has))
      (set_where (AttemptMark (suc n) q m) n k (Pair q m) (Pair r u) sort hq at (nat_eq r q))
  mark_case t n k q m sort hq (Markable _) at has = absurd has
  mark_case t n k q m sort hq (Object _ vs) at has = absurd has
  mark_case t n k q m sort hq (LockOf _) at has = absurd has
  mark_case t n k q m sort hq (Array h items) at has = absurd has
