-- A history with one event more is added.
use Rattle.std.proofs.Common.{zero, suc, ◌+◌, take, ◌≡◌, ◌⊎◌, inl, inr, ℕ, ◌<◌, true, false, List, [], ◌∷◌, ◌++◌}
use Rattle.std.proofs.Common.{length, Some, refl, sym, ap}
use Rattle.std.proofs.Common.{◌∙◌, subst, arith}
use Rattle.std.specs.Prelude.{Contains, nat_eq, slice_get, slice_set}
use Rattle.std.proofs.lemmas.Bool.Decides.{eqb_tells}
use Rattle.ls_events.specs.declared.event.Event.{Event}
use Rattle.ls_history_numbers.specs.declared.numbering.Known.{Known}
use Rattle.ls_history_numbers.specs.Numbers.{AreNumbered, HasNone, IsLonger, IsOf, Keeps}
use Rattle.ls_history_numbers.proofs.Lists.{below, contains_cases, contains_last, contains_left, contains_none}
use Rattle.ls_history_numbers.proofs.Lists.{length-set, pushed_last, pushed_left, pushed_where, set_other, set_same}
use Rattle.ls_history_numbers.proofs.Lists.{some_is}

-- the same history, and all the longer ones
record Stays (x y : Known) : Type 0 where
  events : y.events.items ≡ x.events.items
  before : y.before ≡ x.before
  longer : (m : ℕ) → Contains x.longer.items m → Contains y.longer.items m

pub keeps_both : (a b c : List Known) → Keeps a b → Keeps b c → Keeps a c
keeps_both a b c f g n k e =
    let x = f n k e in let y = g n x.0 x.1 in (y.0, y.1, y.2 ∙ x.2, y.3 ∙ x.3)

pub is_still : (old new : List Known) (n : ℕ) (h : List Event) → Keeps old new → IsOf old n h → IsOf new n h
is_still old new n h keeps (k, k_is, e) = let x = keeps n k k_is in (x.0, x.1, x.2 ∙ e)

pub of_within : (all : List Known) (n : ℕ) (h : List Event) → IsOf all n h → n < length all
of_within all n h (k, k_is, e) = below all n k k_is

take_more : (xs : List Event) (at : ℕ) (x : Event) → slice_get xs at ≡ Some x → take (suc at) xs ≡ take at xs ++ x ∷ []
take_more [] at x e = cc
take_more (y ∷ ys) zero x e = ap (λ z. z ∷ []) (some_is e)
take_more (y ∷ ys) (suc at) x e = ap (λ l. y ∷ l) (take_more ys at x e)

-- one event more of a history
pub after_one : (old new : List Known) (n m at : ℕ) (history : List Event) (event : Event) →
    IsOf old n (take at history) → slice_get history at ≡ Some event →
    ((p : Known) → slice_get old n ≡ Some p → IsOf new m (p.events.items ++ event ∷ [])) →
    IsOf new m (take (at + 1) history)
after_one old new n m at history event (k, k_is, e) here after =
    let x = after k k_is in
    let one : at + 1 ≡ suc at = omega arith in (
      x.0,
      x.1,
      x.2 ∙ ap (λ l. l ++ event ∷ []) e ∙ sym (take_more history at event here)
          ∙ ap (λ i. take i history) (sym one),
    )

-- the numbers of histories, and one more
abbrev pub Numbers : List Known → List ℕ → List (List Event) → Type 0
Numbers all numbers histories = (i n : ℕ) → slice_get numbers i ≡ Some n →
    (h : List Event) × (slice_get histories i ≡ Some h) × IsOf all n h

pub numbers_none : (all : List Known) (numbers : List ℕ) (histories : List (List Event)) → numbers ≡ [] →
    Numbers all numbers histories
numbers_none all numbers histories none i n e = absurd (nothing i (ap (λ l. slice_get l i) (sym none) ∙ e))
  where
    nothing : (j : ℕ) → slice_get [] j ≡ Some n → ⊥
    nothing j x = cc

pub numbers_more : (old new : List Known) (numbers numbers' : List ℕ) (histories : List (List Event)) (at m : ℕ)
    (h : List Event) → length numbers ≡ at → numbers' ≡ numbers ++ m ∷ [] → Keeps old new → IsOf new m h →
    slice_get histories at ≡ Some h → Numbers old numbers histories → Numbers new numbers' histories
numbers_more old new numbers numbers' histories at m h many more keeps of here each i n e =
    by_place (pushed_where numbers m i n (ap (λ l. slice_get l i) (sym more) ∙ e))
  where
    by_place : (slice_get numbers i ≡ Some n) ⊎ ((i ≡ length numbers) × (m ≡ n)) →
        (g : List Event) × (slice_get histories i ≡ Some g) × IsOf new n g
    by_place (inl was) = let x = each i n was in (x.0, x.1, is_still old new n x.0 keeps x.2)
    by_place (inr (last, same)) =
        (h, ap (slice_get histories) (last ∙ many) ∙ here, subst (λ k. IsOf new k h) same of)

-- the first alone
pub numbered_none : (all : List Known) (k : Known) → all ≡ k ∷ [] → k.events.items ≡ [] → k.longer.items ≡ [] →
    AreNumbered all
numbered_none all k is none no_longer = subst AreNumbered (sym is) (record {
  none = (k, refl, none);
  made = λ n l here later. absurd (past n l here later);
  listed = λ n l p here later from. absurd (past n l here later);
  known = λ n m p here longer. absurd (no_more n p m here longer);
  apart = λ n m l l' here there_too same. both n m l l' here there_too;
})
  where
    past : (n : ℕ) (l : Known) → slice_get (k ∷ []) n ≡ Some l → 0 < n → ⊥
    past n l here later = let b = below (k ∷ []) n l here in omega (arith, b, later)

    no_more : (n : ℕ) (p : Known) (m : ℕ) → slice_get (k ∷ []) n ≡ Some p → Contains p.longer.items m → ⊥
    no_more n p m here longer =
        let zero_is : n ≡ 0 = let b = below (k ∷ []) n p here in omega (arith, b) in
        let same : k ≡ p = some_is (sym (ap (slice_get (k ∷ [])) zero_is) ∙ here) in
        contains_none p.longer.items m (ap (λ (l : Known). l.longer.items) (sym same) ∙ no_longer) longer

    both : (n m : ℕ) (l l' : Known) → slice_get (k ∷ []) n ≡ Some l → slice_get (k ∷ []) m ≡ Some l' → n ≡ m
    both n m l l' here there_too =
        let b = below (k ∷ []) n l here in let d = below (k ∷ []) m l' there_too in omega (arith, b, d)

module _ (old new : List Known) (number : ℕ) (p p' k : Known) (h : AreNumbered old)
    (p_is : slice_get old number ≡ Some p) (same_events : p'.events.items ≡ p.events.items)
    (same_before : p'.before ≡ p.before) (one_longer : p'.longer.items ≡ p.longer.items ++ length old ∷ [])
    (is : new ≡ slice_set old number p' ++ k ∷ []) (event : Event) (k_before : k.before ≡ number)
    (k_longer : k.longer.items ≡ []) (k_events : k.events.items ≡ p.events.items ++ event ∷ [])
    (none : HasNone old (p.events.items ++ event ∷ [])) where
  within : number < length old
  within = below old number p p_is

  mid : List Known
  mid = slice_set old number p'

  in_new : (n : ℕ) (y : Known) → slice_get (slice_set old number p') n ≡ Some y → slice_get new n ≡ Some y
  in_new n y e =
      ap (λ (l : List Known). slice_get l n) is ∙ pushed_left (slice_set old number p') k n y e

  here_new : slice_get new number ≡ Some p'
  here_new = in_new number p' (set_same old number p' within)

  last_new : slice_get new (length old) ≡ Some k
  last_new =
      ap (slice_get new) (sym (length-set old number p'))
      ∙ ap (λ (l : List Known). slice_get l (length (slice_set old number p'))) is
      ∙ pushed_last (slice_set old number p') k

  -- each that was there is there still
  old_there : (n : ℕ) (x : Known) → slice_get old n ≡ Some x → (y : Known) × (slice_get new n ≡ Some y) × Stays x y
  old_there n x e = by_place (eqb_tells n number)
    where
      by_place : ((nat_eq n number ≡ true) × (n ≡ number)) ⊎ ((nat_eq n number ≡ false) × (n ≡ number → ⊥)) →
          (y : Known) × (slice_get new n ≡ Some y) × Stays x y
      by_place (inl (t, same)) =
          let x_is : p ≡ x = some_is (sym p_is ∙ ap (slice_get old) (sym same) ∙ e) in (
            p',
            ap (slice_get new) same ∙ here_new,
            record {
              events = same_events ∙ ap (λ (l : Known). l.events.items) x_is;
              before = same_before ∙ ap (λ (l : Known). l.before) x_is;
              longer = λ m c.
                  subst (λ l. Contains l m) (sym one_longer)
                  (contains_left p.longer.items (length old) m
                  (subst (λ (l : Known). Contains l.longer.items m) (sym x_is) c));
            },
          )
      by_place (inr (f, other)) = (
        x,
        in_new n x (set_other old number n p' other ∙ e),
        record {
          events = refl;
          before = refl;
          longer = λ m c. c;
        },
      )

  record Was (n : ℕ) (y : Known) : Type 0 where
    x : Known
    x_is : slice_get old n ≡ Some x
    events : y.events.items ≡ x.events.items
    before : y.before ≡ x.before
    longer : (m : ℕ) → Contains y.longer.items m → Contains x.longer.items m ⊎ ((n ≡ number) × (m ≡ length old))

  -- and nothing else, but the last
  new_cases : (n : ℕ) (y : Known) → slice_get new n ≡ Some y → Was n y ⊎ ((n ≡ length old) × (y ≡ k))
  new_cases n y e =
      by_end (pushed_where (slice_set old number p') k n y (ap (λ (l : List Known). slice_get l n) (sym is) ∙ e))
    where
      by_place : slice_get (slice_set old number p') n ≡ Some y →
          ((nat_eq n number ≡ true) × (n ≡ number)) ⊎ ((nat_eq n number ≡ false) × (n ≡ number → ⊥)) → Was n y
      by_place here (inl (t, same)) =
          let y_is : p' ≡ y =
          some_is (sym (set_same old number p' within) ∙ ap (slice_get (slice_set old number p')) (sym same) ∙ here) in
          record {
            x = p;
            x_is = ap (slice_get old) same ∙ p_is;
            events = ap (λ (l : Known). l.events.items) (sym y_is) ∙ same_events;
            before = ap (λ (l : Known). l.before) (sym y_is) ∙ same_before;
            longer = λ m c. by_longer m (contains_cases p.longer.items (length old) m
                (subst (λ l. Contains l m) (ap (λ (l : Known). l.longer.items) (sym y_is) ∙ one_longer) c));
          }
        where
          by_longer : (m : ℕ) → Contains p.longer.items m ⊎ (length old ≡ m) →
              Contains p.longer.items m ⊎ ((n ≡ number) × (m ≡ length old))
          by_longer m (inl c) = inl c
          by_longer m (inr e) = inr (same, sym e)
      by_place here (inr (f, other)) = record {
        x = y;
        x_is = sym (set_other old number n p' other) ∙ here;
        events = refl;
        before = refl;
        longer = λ m c. inl c;
      }

      by_end : (slice_get (slice_set old number p') n ≡ Some y)
          ⊎ ((n ≡ length (slice_set old number p')) × (k ≡ y)) → Was n y ⊎ ((n ≡ length old) × (y ≡ k))
      by_end (inl here) = inl (by_place here (eqb_tells n number))
      by_end (inr (last, same)) = inr (last ∙ length-set old number p', sym same)

  pub keeps : Keeps old new
  keeps n x e = let y = old_there n x e in (y.0, y.1, y.2.events, y.2.before)

  pub is_new : IsOf new (length old) (p.events.items ++ event ∷ [])
  is_new = (k, last_new, k_events)

  made : (n : ℕ) (y : Known) → slice_get new n ≡ Some y → 0 < n → IsLonger new n y
  made n y e later = by_case (new_cases n y e)
    where
      by_case : Was n y ⊎ ((n ≡ length old) × (y ≡ k)) → IsLonger new n y
      by_case (inl w) =
          let l = h.made n w.x w.x_is later in
          let f = old_there w.x.before l.from l.from_is in
          record {
            earlier = subst (λ b. b < n) (sym w.before) l.earlier;
            from = f.0;
            from_is = ap (slice_get new) w.before ∙ f.1;
            last = l.last;
            is = w.events ∙ l.is ∙ ap (λ es. es ++ l.last ∷ []) (sym f.2.events);
          }
      by_case (inr (last, same)) = record {
        earlier = omega (arith, within, last, ap (λ (l : Known). l.before) same, k_before);
        from = p';
        from_is = ap (slice_get new) (ap (λ (l : Known). l.before) same ∙ k_before) ∙ here_new;
        last = event;
        is = ap (λ (l : Known). l.events.items) same ∙ k_events ∙ ap (λ es. es ++ event ∷ []) (sym same_events);
      }

  listed : (n : ℕ) (y q : Known) → slice_get new n ≡ Some y → 0 < n → slice_get new y.before ≡ Some q →
      Contains q.longer.items n
  listed n y q e later q_is = by_case (new_cases n y e)
    where
      by_case : Was n y ⊎ ((n ≡ length old) × (y ≡ k)) → Contains q.longer.items n
      by_case (inl w) =
          let l = h.made n w.x w.x_is later in
          let f = old_there w.x.before l.from l.from_is in
          let same : f.0 ≡ q = some_is (sym f.1 ∙ ap (slice_get new) (sym w.before) ∙ q_is) in
          subst (λ (z : Known). Contains z.longer.items n) same
          (f.2.longer n (h.listed n w.x l.from w.x_is later l.from_is))
      by_case (inr (last, same)) =
          let q_same : p' ≡ q =
          some_is (sym here_new ∙ ap (slice_get new) (sym (ap (λ (l : Known). l.before) same ∙ k_before)) ∙ q_is) in
          subst (λ (z : Known). Contains z.longer.items n) q_same
          (subst (λ l. Contains l n) (sym one_longer)
          (subst (λ m. Contains (p.longer.items ++ length old ∷ []) m) (sym last)
          (contains_last p.longer.items (length old))))

  known : (n m : ℕ) (q : Known) → slice_get new n ≡ Some q → Contains q.longer.items m →
      (l : Known) × (slice_get new m ≡ Some l) × (l.before ≡ n) × (0 < m)
  known n m q e c = by_case (new_cases n q e)
    where
      by_longer : (w : Was n q) → Contains w.x.longer.items m ⊎ ((n ≡ number) × (m ≡ length old)) →
          (l : Known) × (slice_get new m ≡ Some l) × (l.before ≡ n) × (0 < m)
      by_longer w (inl there_still) =
          let l = h.known n m w.x w.x_is there_still in
          let f = old_there m l.0 l.1 in
          (f.0, f.1, f.2.before ∙ l.2, l.3)
      by_longer w (inr (n_is, m_is)) =
          (k, ap (slice_get new) m_is ∙ last_new, k_before ∙ sym n_is, omega (arith, within, m_is))

      by_case : Was n q ⊎ ((n ≡ length old) × (q ≡ k)) →
          (l : Known) × (slice_get new m ≡ Some l) × (l.before ≡ n) × (0 < m)
      by_case (inl w) = by_longer w (w.longer m c)
      by_case (inr (last, same)) =
          absurd (contains_none q.longer.items m (ap (λ (l : Known). l.longer.items) same ∙ k_longer) c)

  apart : (n m : ℕ) (y z : Known) → slice_get new n ≡ Some y → slice_get new m ≡ Some z →
      y.events.items ≡ z.events.items → n ≡ m
  apart n m y z e f same = by_case (new_cases n y e) (new_cases m z f)
    where
      by_case : Was n y ⊎ ((n ≡ length old) × (y ≡ k)) → Was m z ⊎ ((m ≡ length old) × (z ≡ k)) → n ≡ m
      by_case (inl v) (inl w) = h.apart n m v.x w.x v.x_is w.x_is (sym v.events ∙ same ∙ w.events)
      by_case (inl v) (inr (last, z_is)) =
          absurd (none n v.x v.x_is (sym v.events ∙ same ∙ ap (λ (l : Known). l.events.items) z_is ∙ k_events))
      by_case (inr (last, y_is)) (inl w) =
          absurd (none m w.x w.x_is (sym w.events ∙ sym same ∙ ap (λ (l : Known). l.events.items) y_is ∙ k_events))
      by_case (inr (last, y_is)) (inr (last', z_is)) = last ∙ sym last'

  pub numbered : AreNumbered new
  numbered = record {
    none = let f = old_there 0 h.none.0 h.none.1 in (f.0, f.1, f.2.events ∙ h.none.2);
    made = made;
    listed = listed;
    known = known;
    apart = apart;
  }
