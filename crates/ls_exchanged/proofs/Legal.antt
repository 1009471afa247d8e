-- Legal orders of events whose threads have the names of each other.
use Rattle.std.proofs.Common.{◌≡◌, ◌==◌, ◌&&◌, ◌+◌, ℕ, Bool, true, false, cond, List, [], ◌∷◌, Option, Some, None}
use Rattle.std.proofs.Common.{map, refl, sym, ap, ◌∙◌, slice_get, option_map}
use Rattle.std.specs.Prelude.{find}
use Rattle.std.specs.Cmp.{both_ways}
use Rattle.std.specs.Option.{option_map_or}
use Rattle.std.specs.Str.{bytes_eq}
use Rattle.std.proofs.lemmas.Option.{slice_get-map}
use Rattle.ls_report.specs.Events.{Event, Text}
use Rattle.ls_orders.specs.Legal.{IsLegal}
use Rattle.ls_orders.specs.SetCalls.{asked_of, call_named, calls_from, end_at, end_of, first_after}
use Rattle.ls_orders.specs.SetCalls.{foreign_from, is_foreign, name_at, name_of, set_calls, with_asked}
use Rattle.ls_orders.specs.declared.calls.SetCall.{SetCall}
use Rattle.ls_exchanged.proofs.Alike.{list_twice}
use Rattle.ls_exchanged.proofs.Texts.{call_apart, call_some, is_same, same_is, swapped, swapped_test, swapped_twice}

-- ---- what is found

found_here : (test : SetCall → Bool) (x c : SetCall) (later : Option SetCall) (z : Bool) →
    test x ≡ z →
    (later ≡ Some c → test c ≡ true) →
    cond z (Some x) later ≡ Some c →
    test c ≡ true
found_here test x c later true passes rest e = let same : x ≡ c = cc in ap test (sym same) ∙ passes
found_here test x c later false passes rest e = rest e

found_passes : (test : SetCall → Bool) (xs : List SetCall) (c : SetCall) → find test xs ≡ Some c → test c ≡ true
found_passes test [] c e = absurd (none e)
  where
    none : None ≡ Some c → ⊥
    none k = cc
found_passes test (x ∷ xs) c e = found_here test x c (find test xs) (test x) refl (found_passes test xs c) e

-- a choice between two events, with other names
either_other : (g : Event → Event) (z : Bool) (e : Event) (o o' : Option Event) →
    o' ≡ option_map g o →
    cond z (Some (g e)) o' ≡ option_map g (cond z (Some e) o)
either_other g true e o o' k = refl
either_other g false e o o' k = k

module _ (a b : Text) where
  -- the same event, with the names of two threads exchanged
  abbrev pub other : Event → Event
  other e = record { thread = swapped a b e.thread; call = e.call; occurrence = e.occurrence }

  -- the same events so
  abbrev pub others : List Event → List Event
  others h = map other h

  others_twice : (h : List Event) → others (others h) ≡ h
  others_twice h = list_twice other
      (λ e. ap (λ t. record { thread = t; call = e.call; occurrence = e.occurrence }) (swapped_twice a b e.thread)) h

  -- ---- set calls have no names

  end_other : (t : Text) (call at : ℕ) (h : List Event) →
      end_of (swapped a b t) call at (others h) ≡ end_of t call at h
  end_other t call at [] = refl
  end_other t call at (e ∷ es) =
      ap (λ z. cond (z && e.call == call) (end_at at e.occurrence)
      (end_of (swapped a b t) call (at + 1) (others es))) (swapped_test a b e.thread t)
      ∙ ap (cond (bytes_eq e.thread t && e.call == call) (end_at at e.occurrence)) (end_other t call (at + 1) es)

  calls_other : (at : ℕ) (h : List Event) → calls_from at (others h) ≡ calls_from at h
  calls_other at [] = refl
  calls_other at (e ∷ es) =
      ap (λ x. with_asked (asked_of e.occurrence) at x (calls_from (at + 1) (others es)))
      (end_other e.thread e.call (at + 1) es)
      ∙ ap (with_asked (asked_of e.occurrence) at (end_of e.thread e.call (at + 1) es)) (calls_other (at + 1) es)

  foreign_other : (first : Option Text) (h : List Event) →
      foreign_from first (others h) ≡ option_map other (foreign_from first h)
  foreign_other first [] = refl
  foreign_other first (e ∷ es) =
      either_other other (is_foreign first e.occurrence) e (foreign_from (first_after first e.occurrence) es)
      (foreign_from (first_after first e.occurrence) (others es)) (foreign_other (first_after first e.occurrence) es)

  -- ---- names of calls

  abbrev named : Option Event → Text
  named o = option_map_or name_of o []

  named_apart : (x y : Option Event) → named (option_map other x) ≡ named (option_map other y) → named x ≡ named y
  named_apart None None e = refl
  named_apart None (Some y) e = absurd (call_some (swapped a b y.thread) y.call e)
  named_apart (Some x) None e = absurd (call_some (swapped a b x.thread) x.call (sym e))
  named_apart (Some x) (Some y) e = call_apart a b x.thread y.thread x.call y.call e

  name_is : (h : List Event) (i : ℕ) → name_at (others h) i ≡ named (option_map other (slice_get h i))
  name_is h i = ap named (slice_get-map other h i)

  name_apart : (h : List Event) (i j : ℕ) →
      name_at (others h) i ≡ name_at (others h) j →
      name_at h i ≡ name_at h j
  name_apart h i j e = named_apart (slice_get h i) (slice_get h j) (sym (name_is h i) ∙ e ∙ name_is h j)

  name_back : (h : List Event) (i j : ℕ) →
      name_at h i ≡ name_at h j →
      name_at (others h) i ≡ name_at (others h) j
  name_back h i j e =
      name_apart (others h) i j
      (ap (λ l. name_at l i) (others_twice h) ∙ e ∙ sym (ap (λ l. name_at l j) (others_twice h)))

  name_test : (h : List Event) (i j : ℕ) →
      bytes_eq (name_at (others h) i) (name_at (others h) j) ≡ bytes_eq (name_at h i) (name_at h j)
  name_test h i j =
      both_ways (bytes_eq (name_at (others h) i) (name_at (others h) j)) (bytes_eq (name_at h i) (name_at h j))
      (λ e. same_is (name_at h i) (name_at h j)
      (name_apart h i j (is_same (name_at (others h) i) (name_at (others h) j) e)))
      (λ e. same_is (name_at (others h) i) (name_at (others h) j)
      (name_back h i j (is_same (name_at h i) (name_at h j) e)))

  module _ (h : List Event) where
    -- a call that is found by its name is found by its other name
    found_other : (name : Text) (c : SetCall) →
        call_named h (set_calls h) name ≡ Some c →
        call_named (others h) (set_calls (others h)) (name_at (others h) c.called) ≡ Some c
    found_other name c e =
        let own : name ≡ name_at h c.called = is_same name (name_at h c.called)
        (found_passes (λ x. bytes_eq name (name_at h x.called)) (set_calls h) c e) in
        ap (λ cs. call_named (others h) cs (name_at (others h) c.called)) (calls_other 0 h)
        ∙ (λ i. find (λ x. name_test h c.called x.called i) (set_calls h))
        ∙ ap (call_named h (set_calls h)) (sym own)
        ∙ e

    order_other : (order : List Text) (calls : List SetCall) →
        map (call_named h (set_calls h)) order ≡ map (λ c. Some c) calls →
        map (call_named (others h) (set_calls (others h))) (map (λ c. name_at (others h) c.called) calls) ≡
        map (λ c. Some c) calls
    order_other order [] e = refl
    order_other [] (c ∷ cs) e = absurd cc
    order_other (n ∷ ns) (c ∷ cs) e =
        let head : call_named h (set_calls h) n ≡ Some c = cc in
        let tail : map (call_named h (set_calls h)) ns ≡ map (λ c. Some c) cs = cc in
        ap (λ o. o ∷ map (call_named (others h) (set_calls (others h))) (map (λ c. name_at (others h) c.called) cs))
        (found_other n c head)
        ∙ ap (λ os. Some c ∷ os) (order_other ns cs tail)

    -- the calls of a legal order are one under their other names
    pub legal_other : (order : List Text) (l : IsLegal h order) →
        IsLegal (others h) (map (λ c. name_at (others h) c.called) l.calls)
    legal_other order l = record {
      one_set = foreign_other None h ∙ ap (option_map other) l.one_set;
      calls = l.calls;
      named = order_other order l.calls l.named;
      once = l.once;
      complete = λ front back c is. l.complete front back c (sym (calls_other 0 h) ∙ is);
      in_time = l.in_time;
      run = l.run;
    }
