-- A history that goes along from a pair goes along from each that covers it.
use Rattle.std.proofs.Common.{◌≡◌, ◌⊎◌, inl, inr, ℕ, zero, suc, ◌+◌, ◌<◌, ◌≤◌, Bool, true, false, not, nat_eq, ◌&&◌}
use Rattle.std.proofs.Common.{if◌then◌else◌, List, [], ◌∷◌, ◌++◌, Option, Some, None, Contains, length}
use Rattle.std.proofs.Common.{slice_get, refl, sym, ap, ◌∙◌, subst, arith}
use Rattle.std.proofs.Math.Path.{fun_ext}
use Rattle.std.proofs.lemmas.List.{length-map}
use Rattle.std.specs.List.{filter, flat_map, list_any}
use Rattle.std.specs.declared.vec.Vec.{Vec}
use Rattle.std.specs.declared.alloc.Global.{Global}
use Rattle.ls_events.specs.declared.event.Event.{Event}
use Rattle.ls_serial.specs.Serial.{is_called}
use Rattle.ls_linearizable.proofs.There.{any_there, there_any, there_first, there_not}
use Rattle.ls_automaton.specs.declared.outcome.Outcome.{Outcome}
use Rattle.ls_automaton.specs.Held.{AreAmong, Covers, Held, IsCovered, NoneIsCovered, begins, begun, begun_held, ended}
use Rattle.ls_automaton.specs.Held.{ends, entry_at, further, goes_along, has_taken, is_at, is_noted, is_open, kept}
use Rattle.ls_automaton.specs.Held.{leaves_none, may_take, row_of, taken, taking}
use Rattle.ls_automaton.proofs.Ending.{both_ways, one_goes}
use Rattle.ls_automaton.proofs.Entries.{at_parts, at_same, back_of, begun_entries, changed, ended_entries, front_of}
use Rattle.ls_automaton.proofs.Entries.{lesser, not_both, opens, opens_few, opens_less, taken_entries, true_or_false}
use Rattle.ls_automaton.proofs.Judged.{begins_new, begins_only, in_flat, may_by, of_flat, only}

-- ---- an effect before or after the beginning or the end of another call

-- what stands in place of an event
abbrev then_noted : Event → Event → Event
then_noted e x = if is_at e.thread e.call x then e else x

-- it has the same numbers
then_test : (test : ℕ → ℕ → Bool) (e x : Event) →
    test (then_noted e x).thread (then_noted e x).call ≡ test x.thread x.call
then_test test e x = by_same (is_at e.thread e.call x) refl
  where
    by_same : (b : Bool) → is_at e.thread e.call x ≡ b →
        test (if b then e else x).thread (if b then e else x).call ≡ test x.thread x.call
    by_same false differs = refl
    by_same true same =
        let p = at_parts e.thread e.call x same in
        ap (λ t. test t e.call) p.0 ∙ ap (test x.thread) p.1

abbrev by_numbers : (ℕ → ℕ → Bool) → List Event → List Event
by_numbers test xs = filter (λ (x : Event). test x.thread x.call) xs

taken_by_numbers : (test : ℕ → ℕ → Bool) (e : Event) (xs : List Event) →
    by_numbers test (taken e xs) ≡ taken e (by_numbers test xs)
taken_by_numbers test e [] = refl
taken_by_numbers test e (x ∷ xs) =
    ap (λ b. if b then then_noted e x ∷ by_numbers test (taken e xs) else by_numbers test (taken e xs))
    (then_test test e x)
    ∙ by_test (taken_by_numbers test e xs) (test x.thread x.call)
  where
    by_test : by_numbers test (taken e xs) ≡ taken e (by_numbers test xs) → (b : Bool) →
        (if b then then_noted e x ∷ by_numbers test (taken e xs) else by_numbers test (taken e xs))
        ≡ taken e (if b then x ∷ by_numbers test xs else by_numbers test xs)
    by_test more true = ap (λ l. then_noted e x ∷ l) more
    by_test more false = more

taken_both : (e : Event) (xs ys : List Event) → taken e (xs ++ ys) ≡ taken e xs ++ taken e ys
taken_both e [] ys = refl
taken_both e (x ∷ xs) ys = ap (λ l. then_noted e x ∷ l) (taken_both e xs ys)

-- events are of different calls
abbrev AreApart : Event → Event → Type 0
AreApart e f = is_at e.thread e.call f ≡ false

begun_taken : (c e : Event) (xs : List Event) → AreApart e c → begun c (taken e xs) ≡ taken e (begun c xs)
begun_taken c e xs differ =
    ap (λ l. l ++ c ∷ back_of c (taken e xs)) (taken_by_numbers (λ t n. lesser c t) e xs)
    ∙ ap (λ l. taken e (front_of c xs) ++ c ∷ l) (taken_by_numbers (λ t n. not (lesser c t)) e xs)
    ∙ sym (taken_both e (front_of c xs) (c ∷ back_of c xs)
    ∙ ap (λ b. taken e (front_of c xs) ++ (if b then e else c) ∷ taken e (back_of c xs)) differ)

ended_taken : (e f : Event) (xs : List Event) → ended e (taken f xs) ≡ taken f (ended e xs)
ended_taken e f xs = taken_by_numbers (λ t n. not (nat_eq e.thread t && nat_eq e.call n)) f xs

-- ---- what is noted of one call, and what of another

apart_back : (e f : Event) → AreApart e f → AreApart f e
apart_back e f differ = by_test (true_or_false (is_at f.thread f.call e))
  where
    by_test : (is_at f.thread f.call e ≡ true) ⊎ (is_at f.thread f.call e ≡ false) → AreApart f e
    by_test (inr is) = is
    by_test (inl same) =
        let p = at_parts f.thread f.call e same in
        absurd (not_both (at_same e.thread e.call f (sym p.0) (sym p.1)) differ)

-- a call that hasn't taken effect isn't one that has
taken_apart : (xs : List Event) (e f : Event) → has_taken (entry_at xs e.thread e.call) ≡ true →
    is_open (entry_at xs f.thread f.call) ≡ true → AreApart e f
taken_apart xs e f has may = by_test (true_or_false (is_at e.thread e.call f))
  where
    never : (o : Option Event) → has_taken o ≡ true → is_open o ≡ true → ⊥
    never None has may = absurd cc
    never (Some x) has may = by_call (is_called x.happening) has may
      where
        by_call : (b : Bool) → not b ≡ true → b ≡ true → ⊥
        by_call true has may = absurd cc
        by_call false has may = absurd cc

    by_test : (is_at e.thread e.call f ≡ true) ⊎ (is_at e.thread e.call f ≡ false) → AreApart e f
    by_test (inr is) = is
    by_test (inl same) =
        let p = at_parts e.thread e.call f same in
        absurd (never (entry_at xs f.thread f.call)
        (ap (λ t. has_taken (entry_at xs t f.call)) (sym p.0)
        ∙ ap (λ n. has_taken (entry_at xs e.thread n)) (sym p.1) ∙ has) may)

-- what is changed of one call leaves what is noted of another
unchanged : (entries : ℕ → ℕ → Option Event) (e f : Event) (x : Option Event) → AreApart f e →
    changed entries e x f.thread f.call ≡ entries f.thread f.call
unchanged entries e f x differ = ap (λ b. if b then x else entries f.thread f.call) differ

-- a call may still take effect where the same is noted of it
may_still : (p r : Held) (o : Outcome) →
    entry_at r.pending o.end.thread o.end.call ≡ entry_at p.pending o.end.thread o.end.call →
    may_take p o ≡ true → may_take r o ≡ true
may_still p r o same may = ap (λ x. is_open x && not (is_called o.end.happening)) same ∙ may

pub kept_only : (e : Event) (p q : Held) → Contains (kept e p) q →
    (is_noted e (entry_at p.pending e.thread e.call) ≡ true)
    × (record { state = p.state; pending = ended e p.pending } ≡ q)
kept_only e p q there = by_test (is_noted e (entry_at p.pending e.thread e.call)) refl there
  where
    by_test : (b : Bool) → is_noted e (entry_at p.pending e.thread e.call) ≡ b →
        Contains (if b then record { state = p.state; pending = ended e p.pending } ∷ [] else []) q →
        (is_noted e (entry_at p.pending e.thread e.call) ≡ true)
        × (record { state = p.state; pending = ended e p.pending } ≡ q)
    by_test true is there = (is, only (record { state = p.state; pending = ended e p.pending }) q there)
    by_test false is there = absurd (there_not q there)

kept_there : (e : Event) (p : Held) → is_noted e (entry_at p.pending e.thread e.call) ≡ true →
    Contains (kept e p) (record { state = p.state; pending = ended e p.pending })
kept_there e p noted =
    subst (λ b. Contains {X = Held} (if b then record { state = p.state; pending = ended e p.pending } ∷ [] else [])
    (record { state = p.state; pending = ended e p.pending })) (sym noted)
    (there_first (record { state = p.state; pending = ended e p.pending }) [])

module _ (rows : List (Vec Outcome Global)) where
  abbrev row_at : Held → List Outcome
  row_at p = row_of (slice_get rows p.state)

  -- where the call has taken effect
  pub ends_taken : (k : ℕ) (e : Event) (p : Held) → has_taken (entry_at p.pending e.thread e.call) ≡ true →
      ends rows k e p ≡ kept e p
  ends_taken zero e p has = refl
  ends_taken (suc k) e p has = ap (λ b. if b then kept e p else flat_map (further (ends rows k e) p) (row_at p)) has

  -- and where it hasn't
  pub ends_open : (k : ℕ) (e : Event) (p : Held) → has_taken (entry_at p.pending e.thread e.call) ≡ false →
      ends rows (suc k) e p ≡ flat_map (further (ends rows k e) p) (row_at p)
  ends_open k e p hasnt = ap (λ b. if b then kept e p else flat_map (further (ends rows k e) p) (row_at p)) hasnt

  -- the effect of an outcome leads on
  pub further_there : (more : Held → List Held) (p r : Held) (o : Outcome) → may_take p o ≡ true →
      Contains (more (taking p o)) r → Contains (further more p o) r
  further_there more p r o may there = subst (λ b. Contains (if b then more (taking p o) else []) r) (sym may) there

  pub further_only : (more : Held → List Held) (p r : Held) (o : Outcome) → Contains (further more p o) r →
      (may_take p o ≡ true) × Contains (more (taking p o)) r
  further_only more p r o there = by_test (may_take p o) refl there
    where
      by_test : (b : Bool) → may_take p o ≡ b → Contains (if b then more (taking p o) else []) r →
          (may_take p o ≡ true) × Contains (more (taking p o)) r
      by_test true may there = (may, there)
      by_test false may there = absurd (there_not r there)

  -- one call less is open
  fewer_open : (p : Held) (o : Outcome) → may_take p o ≡ true → opens (taken o.end p.pending) < opens p.pending
  fewer_open p o may =
      let by = may_by p o may in opens_less o.end p.pending by.0.call by.1 by.0.is by.0.is_call

  -- no more calls take effect than are open
  pub enough : (k : ℕ) (e : Event) (r q : Held) → opens q.pending ≤ k → Contains (ends rows (suc k) e q) r →
      Contains (ends rows k e q) r
  enough zero e r q few there = by_taken (true_or_false (has_taken (entry_at q.pending e.thread e.call)))
    where
      by_taken : (has_taken (entry_at q.pending e.thread e.call) ≡ true)
          ⊎ (has_taken (entry_at q.pending e.thread e.call) ≡ false) → Contains (ends rows zero e q) r
      by_taken (inl has) = subst (λ l. Contains l r) (ends_taken 1 e q has) there
      by_taken (inr hasnt) =
          let f = of_flat (further (ends rows zero e) q) (row_at q) r
          (subst (λ l. Contains l r) (ends_open zero e q hasnt) there) in
          let less = fewer_open q f.0 (further_only (ends rows zero e) q r f.0 f.2).0 in
          absurd (omega (arith, few, less))
  enough (suc j) e r q few there =
      by_taken (enough j e r) (true_or_false (has_taken (entry_at q.pending e.thread e.call)))
    where
      by_taken : ((z : Held) → opens z.pending ≤ j → Contains (ends rows (suc j) e z) r →
          Contains (ends rows j e z) r) → (has_taken (entry_at q.pending e.thread e.call) ≡ true)
          ⊎ (has_taken (entry_at q.pending e.thread e.call) ≡ false) → Contains (ends rows (suc j) e q) r
      by_taken more (inl has) =
          subst (λ l. Contains l r) (ends_taken (suc (suc j)) e q has ∙ sym (ends_taken (suc j) e q has)) there
      by_taken more (inr hasnt) =
          let f = of_flat (further (ends rows (suc j) e) q) (row_at q) r
          (subst (λ l. Contains l r) (ends_open (suc j) e q hasnt) there) in
          let may = further_only (ends rows (suc j) e) q r f.0 f.2 in
          let less = fewer_open q f.0 may.0 in
          subst (λ l. Contains l r) (sym (ends_open j e q hasnt))
          (in_flat (further (ends rows j e) q) (row_at q) f.0 r f.1
          (further_there (ends rows j e) q r f.0 may.0 (more (taking q f.0) (omega (arith, few, less)) may.1)))

  -- ---- a pair that is covered, an event later

  module _ (p q : Held) (c : Covers rows p q) where
    abbrev o : Outcome
    o = c.outcome

    pub open_less : opens q.pending < opens p.pending
    open_less = subst (λ (z : Held). opens z.pending < opens p.pending) c.is.1 (fewer_open p o c.is.0)

    pub same_length : length q.pending ≡ length p.pending
    same_length = ap (λ (z : Held). length z.pending) (sym c.is.1)
        ∙ length-map p.pending (λ x. if is_at o.end.thread o.end.call x then o.end else x)

    -- of another call the same is noted
    noted_of : (e : Event) → AreApart e o.end →
        entry_at q.pending e.thread e.call ≡ entry_at p.pending e.thread e.call
    noted_of e differ =
        ap (λ (z : Held). entry_at z.pending e.thread e.call) (sym c.is.1)
        ∙ taken_entries o.end p.pending e.thread e.call (may_by p o c.is.0).0.call (may_by p o c.is.0).0.is
        ∙ unchanged (entry_at p.pending) o.end e (Some o.end) differ

    -- one that isn't pending there isn't pending here, and is another
    none_noted : (e : Event) → entry_at q.pending e.thread e.call ≡ None →
        (entry_at p.pending e.thread e.call ≡ None) × AreApart e o.end
    none_noted e none = by_test (true_or_false (is_at e.thread e.call o.end))
      where
        nothing : Some o.end ≡ None → ⊥
        nothing h = cc

        by_test : (is_at e.thread e.call o.end ≡ true) ⊎ (is_at e.thread e.call o.end ≡ false) →
            (entry_at p.pending e.thread e.call ≡ None) × AreApart e o.end
        by_test (inr differ) = (sym (noted_of e differ) ∙ none, differ)
        by_test (inl same) = absurd (nothing
            (sym (ap (λ b. if b then Some o.end else entry_at p.pending e.thread e.call) same)
            ∙ sym (taken_entries o.end p.pending e.thread e.call (may_by p o c.is.0).0.call (may_by p o c.is.0).0.is)
            ∙ ap (λ (z : Held). entry_at z.pending e.thread e.call) c.is.1 ∙ none))

    begun_covers : (e : Event) → AreApart e o.end → Covers rows (begun_held e p) (begun_held e q)
    begun_covers e differ = record {
      outcome = o;
      there = c.there;
      is = (
        may_still p (begun_held e p) o (begun_entries e p.pending o.end.thread o.end.call
            ∙ unchanged (entry_at p.pending) e o.end (Some e) (apart_back e o.end differ)) c.is.0,
        ap (λ l. record { state = o.after; pending = l }) (sym (begun_taken e o.end p.pending
            (apart_back e o.end differ))) ∙ ap (begun_held e) c.is.1,
      );
    }

    ended_covers : (e : Event) → AreApart e o.end → Covers rows
        (record { state = p.state; pending = ended e p.pending })
        (record { state = q.state; pending = ended e q.pending })
    ended_covers e differ = record {
      outcome = o;
      there = c.there;
      is = (
        may_still p (record { state = p.state; pending = ended e p.pending }) o
            (ended_entries e p.pending o.end.thread o.end.call
            ∙ unchanged (entry_at p.pending) e o.end None (apart_back e o.end differ)) c.is.0,
        ap (λ l. record { state = o.after; pending = l }) (sym (ended_taken e o.end p.pending))
            ∙ ap (λ (z : Held). record { state = z.state; pending = ended e z.pending }) c.is.1,
      );
    }

    -- where it leads with the end of a call that hasn't taken effect, this leads too
    ends_too : (e : Event) (r : Held) → has_taken (entry_at p.pending e.thread e.call) ≡ false →
        Contains (ends rows (length q.pending) e q) r → Contains (ends rows (length p.pending) e p) r
    ends_too e r hasnt there = by_length (length p.pending) refl
      where
        by_length : (n : ℕ) → length p.pending ≡ n → Contains (ends rows n e p) r
        by_length zero none =
            let less = open_less in
            let few = opens_few p.pending in
            absurd (omega (arith, none, less, few))
        by_length (suc k) long =
            let less = open_less in
            let few = opens_few p.pending in
            let there_then : Contains (ends rows k e q) r =
            enough k e r q (omega (arith, long, less, few))
            (subst (λ n. Contains (ends rows n e q) r) (same_length ∙ long) there) in
            subst (λ l. Contains l r) (sym (ends_open k e p hasnt))
            (in_flat (further (ends rows k e) p) (row_at p) o r c.there
            (further_there (ends rows k e) p r o c.is.0
            (subst (λ z. Contains (ends rows k e z) r) (sym c.is.1) there_then)))

  -- this history goes along from each pair that covers one from which it does
  abbrev GoesToo : List Event → Type 0
  GoesToo h = (y z : Held) → Covers rows y z → goes_along rows h z ≡ true → goes_along rows h y ≡ true

  -- what goes along from the covered pair goes along from the other
  pub covered_goes : (h : List Event) → GoesToo h
  covered_goes [] p q c along = refl
  covered_goes (e ∷ h) p q c along = by_event (covered_goes h) (is_called e.happening) along
    where
      by_taken : GoesToo h → (r : Held) → Contains (ends rows (length q.pending) e q) r → goes_along rows h r ≡ true →
          (has_taken (entry_at p.pending e.thread e.call) ≡ true)
          ⊎ (has_taken (entry_at p.pending e.thread e.call) ≡ false) →
          list_any (goes_along rows h) (ends rows (length p.pending) e p) ≡ true
      by_taken more r there goes (inr hasnt) =
          there_any (goes_along rows h) (ends rows (length p.pending) e p) r (ends_too p q c e r hasnt there) goes
      by_taken more r there goes (inl has) =
          let may = may_by p c.outcome c.is.0 in
          let differ = taken_apart p.pending e c.outcome.end has (ap is_open may.0.is ∙ may.0.is_call) in
          let noted = noted_of p q c e differ in
          let there_kept = subst (λ l. Contains l r) (ends_taken (length q.pending) e q (ap has_taken noted ∙ has))
          there in
          let k = kept_only e q r there_kept in
          there_any (goes_along rows h) (ends rows (length p.pending) e p)
          (record { state = p.state; pending = ended e p.pending })
          (subst (λ l. Contains l (record { state = p.state; pending = ended e p.pending }))
          (sym (ends_taken (length p.pending) e p has))
          (kept_there e p (ap (is_noted e) (sym noted) ∙ k.0)))
          (more (record { state = p.state; pending = ended e p.pending })
          (record { state = q.state; pending = ended e q.pending }) (ended_covers p q c e differ)
          (ap (goes_along rows h) k.1 ∙ goes))

      by_event : GoesToo h → (b : Bool) →
          list_any (goes_along rows h) (if b then begins e q else ends rows (length q.pending) e q) ≡ true →
          list_any (goes_along rows h) (if b then begins e p else ends rows (length p.pending) e p) ≡ true
      by_event more true any =
          let r = any_there (goes_along rows h) (begins e q) any in
          let b = begins_only e q r.0 r.1 in
          let n = none_noted p q c e b.0 in
          there_any (goes_along rows h) (begins e p) (begun_held e p) (begins_new e p n.0)
          (more (begun_held e p) (begun_held e q) (begun_covers p q c e n.1) (ap (goes_along rows h) b.1 ∙ r.2))
      by_event more false any =
          let r = any_there (goes_along rows h) (ends rows (length q.pending) e q) any in
          by_taken more r.0 r.1 r.2 (true_or_false (has_taken (entry_at p.pending e.thread e.call)))

  -- ---- pairs without those that are covered

  module _ (pairs left : List Held) (lost : (q : Held) → Contains pairs q → Contains left q ⊎ IsCovered rows pairs q)
      (h : List Event) where
    -- a pair that isn't left is covered by one with more open calls, and these are no more than its calls
    some_goes : (n : ℕ) (q : Held) → Contains pairs q → length q.pending ≤ opens q.pending + n →
        goes_along rows h q ≡ true → list_any (goes_along rows h) left ≡ true
    some_goes zero q there few goes = by_place (lost q there)
      where
        by_place : Contains left q ⊎ IsCovered rows pairs q → list_any (goes_along rows h) left ≡ true
        by_place (inl is_left) = there_any (goes_along rows h) left q is_left goes
        by_place (inr k) =
            let less = open_less k.pair q k.covers in
            let long = same_length k.pair q k.covers in
            let most = opens_few k.pair.pending in
            absurd (omega (arith, few, less, long, most))
    some_goes (suc n) q there few goes = by_place (some_goes n) (lost q there)
      where
        by_place : ((p : Held) → Contains pairs p → length p.pending ≤ opens p.pending + n →
            goes_along rows h p ≡ true → list_any (goes_along rows h) left ≡ true) →
            Contains left q ⊎ IsCovered rows pairs q → list_any (goes_along rows h) left ≡ true
        by_place more (inl is_left) = there_any (goes_along rows h) left q is_left goes
        by_place more (inr k) =
            let less = open_less k.pair q k.covers in
            let long = same_length k.pair q k.covers in
            more k.pair k.there (omega (arith, few, less, long)) (covered_goes h k.pair q k.covers goes)

    any_left : list_any (goes_along rows h) pairs ≡ true → list_any (goes_along rows h) left ≡ true
    any_left any =
        let r = any_there (goes_along rows h) pairs any in
        some_goes (length r.0.pending) r.0 r.1 (omega arith) r.2

  -- where each that isn't left is covered, the same is left of them
  pub covered_judge : (pairs left : List Held) → AreAmong left pairs →
      ((q : Held) → Contains pairs q → Contains left q ⊎ IsCovered rows pairs q) →
      leaves_none rows left ≡ leaves_none rows pairs
  covered_judge pairs left among lost = fun_ext (λ h. ap not (both_ways (list_any (goes_along rows h) left)
      (list_any (goes_along rows h) pairs) (one_goes rows left pairs h among) (any_left pairs left lost h)))

  -- where none of all covers one of these, none of these does
  pub none_among : (pairs left : List Held) → AreAmong left pairs →
      ((q : Held) → Contains left q → IsCovered rows pairs q → ⊥) → NoneIsCovered rows left
  none_among pairs left among none q there k =
      none q there (record { pair = k.pair; there = among k.pair k.there; covers = k.covers })
