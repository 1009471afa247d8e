-- Pairs that are left, one event more.
use Rattle.std.proofs.Common.{◌≡◌, ◌⊎◌, inl, inr, ℕ, zero, suc, ◌-◌, Bool, true, false, not, ◌||◌, if◌then◌else◌}
use Rattle.std.proofs.Common.{List, [], ◌∷◌, ◌++◌, Some, Contains, refl, sym, ap, ◌∙◌, subst, arith, ◌+◌, ◌<◌, ◌≤◌}
use Rattle.std.proofs.Common.{append-nil, drop, length, slice_index_or}
use Rattle.std.proofs.lemmas.Bool.{cases_lt}
use Rattle.std.proofs.Math.Path.{fun_ext}
use Rattle.std.specs.List.{flat_map, fold, list_any}
use Rattle.std.specs.declared.vec.Vec.{Vec}
use Rattle.std.specs.declared.alloc.Global.{Global}
use Rattle.std.specs.Prelude.{slice_get}
use Rattle.ls_events.specs.declared.event.Event.{Event}
use Rattle.ls_linearizable.specs.Judging.{later, now}
use Rattle.ls_linearizable.proofs.There.{any_there, there_any, there_cases, there_first, there_later, there_not}
use Rattle.ls_automaton.specs.declared.outcome.Outcome.{Outcome}
use Rattle.ls_automaton.specs.declared.pairs.Pair.{Pair}
use Rattle.ls_automaton.specs.Held.{AreAmong, Held, held_of, helds_of}
use Rattle.ls_automaton.proofs.Lists.{in_both, in_first, in_second}
use Rattle.ls_serial.proofs.Lists.{contains_get, get_within, is_get}
use Rattle.ls_automaton.specs.Held.{ends, entry_at, further, goes_along, has_taken, kept, leaves_none, moved, row_of}

-- ---- lists

pub drop_all : {A : Type 0} (xs : List A) (i : ℕ) → length xs ≤ i → drop i xs ≡ []
drop_all [] zero few = refl
drop_all [] (suc i) few = refl
drop_all (x ∷ xs) zero few = absurd (omega (arith, few))
drop_all (x ∷ xs) (suc i) few = drop_all xs i (omega (arith, few))

-- what is found with all of a list, where it is gone through to its end
pub gone_through : {A B : Type 0} (f : A → List B) (found old : List B) (xs : List A) (i : ℕ) → length xs ≤ i →
    found ++ flat_map f (drop i xs) ≡ old ++ flat_map f xs → found ≡ old ++ flat_map f xs
gone_through f found old xs i few is =
    sym (append-nil found) ∙ ap (λ l. found ++ flat_map f l) (sym (drop_all xs i few)) ∙ is

pub helds_there : (pairs : List Pair) (p : Pair) → Contains pairs p → Contains (helds_of pairs) (held_of p)
helds_there [] p there = absurd (there_not p there)
helds_there (q ∷ pairs) p there = by_place (helds_there pairs p) (there_cases q p pairs there)
  where
    by_place : (Contains pairs p → Contains (helds_of pairs) (held_of p)) → (q ≡ p) ⊎ Contains pairs p →
        Contains (helds_of (q ∷ pairs)) (held_of p)
    by_place more (inl is) = subst (λ z. Contains (helds_of (q ∷ pairs)) (held_of z)) is
        (there_first (held_of q) (helds_of pairs))
    by_place more (inr later_on) = there_later (held_of q) (held_of p) (helds_of pairs) (more later_on)

pub of_helds : (pairs : List Pair) (h : Held) → Contains (helds_of pairs) h → (p : Pair) × Contains pairs p ×
    (held_of p ≡ h)
of_helds [] h there = absurd (there_not h there)
of_helds (q ∷ pairs) h there = by_place (of_helds pairs h) (there_cases (held_of q) h (helds_of pairs) there)
  where
    by_place : (Contains (helds_of pairs) h → (p : Pair) × Contains pairs p × (held_of p ≡ h)) →
        (held_of q ≡ h) ⊎ Contains (helds_of pairs) h → (p : Pair) × Contains (q ∷ pairs) p × (held_of p ≡ h)
    by_place more (inl is) = (q, there_first q pairs, is)
    by_place more (inr later_on) = let r = more later_on in (r.0, there_later q r.0 pairs r.1, r.2)

-- each of the first pairs is among the others
abbrev pub AreFirstAmong : List Pair → List Pair → ℕ → Type 0
AreFirstAmong pairs others i = (k : ℕ) (p : Pair) → k < i → slice_get pairs k ≡ Some p →
    Contains (helds_of others) (held_of p)

pub first_among_more : (pairs others : List Pair) (i : ℕ) (q : Pair) → AreFirstAmong pairs others i →
    i < length pairs → q ≡ slice_index_or pairs i q → Contains (helds_of others) (held_of q) →
    AreFirstAmong pairs others (i + 1)
first_among_more pairs others i q among less is there k p before at = by_place (cases_lt k i)
  where
    some_is : {x y : Pair} → Some x ≡ Some y → x ≡ y
    some_is h = cc

    by_place : (k < i) ⊎ (i ≤ k) → Contains (helds_of others) (held_of p)
    by_place (inl lt) = among k p lt at
    by_place (inr past) =
        let same : k ≡ i = omega (arith, past, before) in
        let own : q ≡ p = some_is (ap Some is ∙ sym (is_get pairs i q less) ∙ ap (slice_get pairs) (sym same) ∙ at) in
        subst (λ z. Contains (helds_of others) (held_of z)) own there

pub first_among_all : (pairs others : List Pair) (i : ℕ) → length pairs ≤ i → AreFirstAmong pairs others i →
    AreAmong (helds_of pairs) (helds_of others)
first_among_all pairs others i all among h there =
    let p = of_helds pairs h there in
    let at = contains_get pairs p.0 p.1 in
    subst (Contains (helds_of others)) p.2 (among at.0 p.0 (omega (arith, get_within pairs at.0 p.0 at.1, all)) at.1)

-- ---- each pair once

pub record AreSplit (all rest once : List Pair) : Type 0 where
  pub old : AreAmong (helds_of rest) (helds_of all)
  pub new : AreAmong (helds_of once) (helds_of all)
  pub lost : (h : Held) → Contains (helds_of all) h → Contains (helds_of rest) h ⊎ Contains (helds_of once) h

pub split_first : (all once : List Pair) → once ≡ [] → AreSplit all all once
split_first all once none = record {
  old = λ h there. there;
  new = λ h there. absurd (there_not h (subst (λ l. Contains (helds_of l) h) none there));
  lost = λ h there. inl there;
}

-- where none is left to go
pub split_all : (all rest once : List Pair) → rest ≡ [] → AreSplit all rest once →
    AreAmong (helds_of all) (helds_of once)
split_all all rest once none s h there = by_place (s.lost h there)
  where
    by_place : Contains (helds_of rest) h ⊎ Contains (helds_of once) h → Contains (helds_of once) h
    by_place (inl more) = absurd (there_not h (subst (λ l. Contains (helds_of l) h) none more))
    by_place (inr once_there) = once_there

pub helds_both : (xs ys : List Pair) → helds_of (xs ++ ys) ≡ helds_of xs ++ helds_of ys
helds_both [] ys = refl
helds_both (x ∷ xs) ys = ap (λ l. held_of x ∷ l) (helds_both xs ys)

module _ (all before rest once : List Pair) (q : Pair) (is : before ≡ rest ++ q ∷ [])
    (s : AreSplit all before once) where
  in_rest : (h : Held) → Contains (helds_of rest) h → Contains (helds_of before) h
  in_rest h there = subst (λ l. Contains l h) (sym (ap helds_of is ∙ helds_both rest (q ∷ [])))
      (in_first (helds_of rest) (helds_of (q ∷ [])) h there)

  own_before : Contains (helds_of before) (held_of q)
  own_before = subst (λ l. Contains l (held_of q)) (sym (ap helds_of is ∙ helds_both rest (q ∷ [])))
      (in_second (helds_of rest) (helds_of (q ∷ [])) (held_of q) (there_first (held_of q) []))

  of_before : (h : Held) → Contains (helds_of before) h → Contains (helds_of rest) h ⊎ (held_of q ≡ h)
  of_before h there = by_place (in_both (helds_of rest) (helds_of (q ∷ [])) h
      (subst (λ l. Contains l h) (ap helds_of is ∙ helds_both rest (q ∷ [])) there))
    where
      by_place : Contains (helds_of rest) h ⊎ Contains (helds_of (q ∷ [])) h →
          Contains (helds_of rest) h ⊎ (held_of q ≡ h)
      by_place (inl one) = inl one
      by_place (inr two) = by_last (there_cases (held_of q) h [] two)
        where
          by_last : (held_of q ≡ h) ⊎ Contains [] h → Contains (helds_of rest) h ⊎ (held_of q ≡ h)
          by_last (inl same) = inr same
          by_last (inr none) = absurd (there_not h none)

  -- with one pair less to go, which is there
  split_on : (more : List Pair) → AreAmong (helds_of once) (helds_of more) → AreAmong (helds_of more) (helds_of all) →
      Contains (helds_of more) (held_of q) → AreSplit all rest more
  split_on more kept new there = record {
    old = λ h in_it. s.old h (in_rest h in_it);
    new = new;
    lost = λ h in_it. by_place h (s.lost h in_it);
  }
    where
      by_place : (h : Held) → Contains (helds_of before) h ⊎ Contains (helds_of once) h →
          Contains (helds_of rest) h ⊎ Contains (helds_of more) h
      by_place h (inr one) = inr (kept h one)
      by_place h (inl two) = by_last (of_before h two)
        where
          by_last : Contains (helds_of rest) h ⊎ (held_of q ≡ h) → Contains (helds_of rest) h ⊎
              Contains (helds_of more) h
          by_last (inl in_it) = inl in_it
          by_last (inr same) = inr (subst (Contains (helds_of more)) same there)

  pub split_known : Contains (helds_of once) (held_of q) → AreSplit all rest once
  split_known there = split_on once (λ h in_it. in_it) s.new there

  pub split_new : (more : List Pair) → more ≡ once ++ q ∷ [] → AreSplit all rest more
  split_new more pushed =
      let both = ap helds_of pushed ∙ helds_both once (q ∷ []) in
      split_on more
      (λ h in_it. subst (λ l. Contains l h) (sym both) (in_first (helds_of once) (helds_of (q ∷ [])) h in_it))
      (λ h in_it. by_place h (in_both (helds_of once) (helds_of (q ∷ [])) h (subst (λ l. Contains l h) both in_it)))
      (subst (λ l. Contains l (held_of q)) (sym both)
      (in_second (helds_of once) (helds_of (q ∷ [])) (held_of q) (there_first (held_of q) [])))
    where
      by_place : (h : Held) → Contains (helds_of once) h ⊎ Contains (helds_of (q ∷ [])) h → Contains (helds_of all) h
      by_place h (inl one) = s.new h one
      by_place h (inr two) = by_last (there_cases (held_of q) h [] two)
        where
          by_last : (held_of q ≡ h) ⊎ Contains [] h → Contains (helds_of all) h
          by_last (inl same) = subst (Contains (helds_of all)) same (s.old (held_of q) own_before)
          by_last (inr none) = absurd (there_not h none)

pub both_ways : (a b : Bool) → (a ≡ true → b ≡ true) → (b ≡ true → a ≡ true) → a ≡ b
both_ways true b f g = sym (f refl)
both_ways false true f g = g refl
both_ways false false f g = refl

module _ (rows : List (Vec Outcome Global)) where
  -- where a call has not taken effect, and steps are left
  pub ends_further : (k : ℕ) (e : Event) (p : Held) → (k ≡ 0 → ⊥) →
      has_taken (entry_at p.pending e.thread e.call) ≡ false →
      ends rows k e p ≡ flat_map (further (ends rows (k - 1) e) p) (row_of (slice_get rows p.state))
  ends_further zero e p some none = absurd (some refl)
  ends_further (suc j) e p some none =
      let less : j ≡ suc j - 1 = omega arith in
      ap (λ b. if b then kept e p else flat_map (further (ends rows j e) p) (row_of (slice_get rows p.state))) none
      ∙ ap (λ m. flat_map (further (ends rows m e) p) (row_of (slice_get rows p.state))) less

  or_assoc : (a b c : Bool) → ((a || b) || c) ≡ (a || (b || c))
  or_assoc true b c = refl
  or_assoc false b c = refl

  any_both : (t : Held → Bool) (xs ys : List Held) → list_any t (xs ++ ys) ≡ (list_any t xs || list_any t ys)
  any_both t [] ys = refl
  any_both t (x ∷ xs) ys = ap (λ b. t x || b) (any_both t xs ys) ∙ sym (or_assoc (t x) (list_any t xs) (list_any t ys))

  any_moved : (pairs : List Held) (e : Event) (h : List Event) →
      list_any (goes_along rows (e ∷ h)) pairs ≡ list_any (goes_along rows h) (flat_map (moved rows e) pairs)
  any_moved [] e h = refl
  any_moved (p ∷ pairs) e h =
      ap (λ b. list_any (goes_along rows h) (moved rows e p) || b) (any_moved pairs e h)
      ∙ sym (any_both (goes_along rows h) (moved rows e p) (flat_map (moved rows e) pairs))

  later_is : (pairs : List Held) (e : Event) (h : List Event) →
      later (leaves_none rows pairs) e h ≡ leaves_none rows pairs (e ∷ h)
  later_is [] e h = refl
  later_is (p ∷ pairs) e h = refl

  -- what pairs become judges what goes on from an event
  pub moved_judge : (pairs : List Held) (e : Event) →
      leaves_none rows (flat_map (moved rows e) pairs) ≡ later (leaves_none rows pairs) e
  moved_judge pairs e = sym (fun_ext (λ h. later_is pairs e h ∙ ap not (any_moved pairs e h)))

  pub one_goes : (pairs others : List Held) (h : List Event) →
      ((p : Held) → Contains pairs p → Contains others p) → list_any (goes_along rows h) pairs ≡ true →
      list_any (goes_along rows h) others ≡ true
  one_goes pairs others h among any =
      let r = any_there (goes_along rows h) pairs any in
      there_any (goes_along rows h) others r.0 (among r.0 r.1) r.2

  -- how often a pair stands there, and where, is all one
  pub same_judge : (pairs others : List Held) → ((p : Held) → Contains pairs p → Contains others p) →
      ((p : Held) → Contains others p → Contains pairs p) → leaves_none rows pairs ≡ leaves_none rows others
  same_judge pairs others f g = fun_ext (λ h. ap not (both_ways (list_any (goes_along rows h) pairs)
      (list_any (goes_along rows h) others) (one_goes pairs others h f) (one_goes others pairs h g)))

  -- noted event by event
  pub noted_leaves : (pairs : List Held) (h : List Event) →
      now (fold later (leaves_none rows pairs) h) ≡ leaves_none rows pairs h
  noted_leaves pairs [] = refl
  noted_leaves pairs (e ∷ h) =
      ap (λ v. now (fold later v h)) (sym (moved_judge pairs e))
      ∙ noted_leaves (flat_map (moved rows e) pairs) h
      ∙ sym (ap not (any_moved pairs e h))
