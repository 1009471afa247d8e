-- A pair is left, as a list, exactly if the observer holds one.
use Rattle.std.proofs.Common.{◌≡◌, ◌↔◌, ◌⊎◌, inl, inr, ℕ, zero, suc, ◌<◌, ◌≤◌, Bool, true, false, not}
use Rattle.std.proofs.Common.{◌&&◌, if◌then◌else◌, List, [], ◌∷◌, ◌++◌, Option, Some, None, is_none, Contains, length}
use Rattle.std.proofs.Common.{slice_get, refl, sym, ap, ◌∙◌, subst, arith, append_assoc, append-nil}
use Rattle.std.proofs.Math.Path.{fun_ext}
use Rattle.std.specs.List.{flat_map, list_any}
use Rattle.std.specs.declared.vec.Vec.{Vec}
use Rattle.std.specs.declared.alloc.Global.{Global}
use Rattle.ls_events.specs.declared.event.Event.{Event}
use Rattle.ls_serial.specs.Serial.{IsCall, IsEnd, IsEndOf, is_called}
use Rattle.ls_linearizable.specs.Once.{AreOnce}
use Rattle.ls_linearizable.proofs.Same.{event_test}
use Rattle.ls_linearizable.proofs.There.{any_there, there_any, there_cases, there_first, there_later, there_not}
use Rattle.ls_automaton.specs.declared.outcome.Outcome.{Outcome}
use Rattle.ls_automaton.specs.Automaton.{Idle, Open, Took, Pair, status_of, with_status, Takes, Done, Take, Holds}
use Rattle.ls_automaton.specs.Automaton.{Starts, Calls, Ends}
use Rattle.ls_automaton.specs.Held.{Held, begins, begun, begun_held, ended, ends, entry_at, first_held, further}
use Rattle.ls_automaton.specs.Held.{goes_along, has_taken, is_at, is_noted, is_open, kept, may_take, row_of, taken}
use Rattle.ls_automaton.specs.Held.{taking}
use Rattle.ls_automaton.specs.Laws.{RunsAreOnce}
use Rattle.ls_automaton.specs.Tables.{Goes}
use Rattle.ls_automaton.proofs.Holding.{IsLinked, IsSo, linked, once_first}
use Rattle.ls_automaton.proofs.Lists.{in_both, in_first, in_second}
use Rattle.ls_automaton.proofs.Entries.{and_parts, as_called, as_status, begun_entries, changed_status, ended_entries}
use Rattle.ls_automaton.proofs.Entries.{found_at, not_both, opens, opens_few, opens_less, pair_of, statuses}
use Rattle.ls_automaton.proofs.Entries.{taken_entries}
use Rattle.ls_automaton.proofs.Runs.{apart, call_of, same_call, serially_serial}

-- ---- what an entry says

not_true : (b : Bool) → not b ≡ true → b ≡ false
not_true true h = absurd cc
not_true false h = refl

pub record IsOpenBy (o : Option Event) : Type 0 where
  pub call : Event
  pub is : o ≡ Some call
  pub is_call : IsCall call

open_by : (o : Option Event) → is_open o ≡ true → IsOpenBy o
open_by None h = absurd cc
open_by (Some x) h = record { call = x; is = refl; is_call = h }

-- an outcome leads on from where its call is open, if it ends with an end
pub may_by : (p : Held) (o : Outcome) → may_take p o ≡ true →
    IsOpenBy (entry_at p.pending o.end.thread o.end.call) × IsEnd o.end
may_by p o h =
    let parts = and_parts (is_open (entry_at p.pending o.end.thread o.end.call)) (not (is_called o.end.happening)) h in
    (open_by (entry_at p.pending o.end.thread o.end.call) parts.0, not_true (is_called o.end.happening) parts.1)

pub may_take_by : (p : Held) (o : Outcome) (c : Event) → entry_at p.pending o.end.thread o.end.call ≡ Some c →
    IsCall c → IsEnd o.end → may_take p o ≡ true
may_take_by p o c there call end =
    ap (λ b. b && not (is_called o.end.happening)) (ap is_open there ∙ call) ∙ ap not end

record IsTakenBy (o : Option Event) : Type 0 where
  end : Event
  is : o ≡ Some end
  is_end : IsEnd end

taken_by : (o : Option Event) → has_taken o ≡ true → IsTakenBy o
taken_by None h = absurd cc
taken_by (Some x) h = record { end = x; is = refl; is_end = not_true (is_called x.happening) h }

-- of a status its entry
opened : (o : Option Event) (c : Event) → as_status o ≡ Open c → (o ≡ Some c) × IsCall c
opened None c is = absurd cc
opened (Some x) c is = by_test (is_called x.happening) refl is
  where
    by_test : (b : Bool) → is_called x.happening ≡ b → as_called x b ≡ Open c → (Some x ≡ Some c) × IsCall c
    by_test true h is = let same : x ≡ c = cc in (ap Some same, subst IsCall same h)
    by_test false h is = absurd cc

took : (o : Option Event) (e : Event) → as_status o ≡ Took e → (o ≡ Some e) × IsEnd e
took None e is = absurd cc
took (Some x) e is = by_test (is_called x.happening) refl is
  where
    by_test : (b : Bool) → is_called x.happening ≡ b → as_called x b ≡ Took e → (Some x ≡ Some e) × IsEnd e
    by_test false h is = let same : x ≡ e = cc in (ap Some same, subst IsEnd same h)
    by_test true h is = absurd cc

noted_is : (e : Event) (o : Option Event) → is_noted e o ≡ true → o ≡ Some e
noted_is e None h = absurd cc
noted_is e (Some x) h = ap Some (sym ((event_test e x).0 h))

-- ---- statuses of the pairs

begun_pair : (c : Event) (p : Held) → IsCall c →
    pair_of (record { state = p.state; pending = begun c p.pending })
    ≡ record { state = p.state; calls = with_status (statuses p.pending) c (Open c) }
begun_pair c p call = ap (λ s. record { state = p.state; calls = s })
    (changed_status p.pending (begun c p.pending) c (Some c) (begun_entries c p.pending)
    ∙ ap (λ b. with_status (statuses p.pending) c (as_called c b)) call)

ended_pair : (e : Event) (p : Held) →
    pair_of (record { state = p.state; pending = ended e p.pending })
    ≡ record { state = p.state; calls = with_status (statuses p.pending) e Idle }
ended_pair e p = ap (λ s. record { state = p.state; calls = s })
    (changed_status p.pending (ended e p.pending) e None (ended_entries e p.pending))

taking_pair : (p : Held) (o : Outcome) (c y : Event) → IsEndOf c o.end →
    entry_at p.pending o.end.thread o.end.call ≡ Some y →
    pair_of (taking p o) ≡ record { state = o.after; calls = with_status (statuses p.pending) c (Took o.end) }
taking_pair p o c y end there = ap (λ s. record { state = o.after; calls = s })
    (changed_status p.pending (taken o.end p.pending) o.end (Some o.end)
    (λ t n. taken_entries o.end p.pending t n y there)
    ∙ ap (λ b. with_status (statuses p.pending) o.end (as_called o.end b)) end.ends
    ∙ fun_ext (λ t. fun_ext
    (λ n. ap (λ u. if is_at t n (record { thread = u; call = o.end.call; happening = o.end.happening }) then
    Took o.end else statuses p.pending t n) end.thread
    ∙ ap (λ u. if is_at t n (record { thread = c.thread; call = u; happening = o.end.happening }) then
    Took o.end else statuses p.pending t n) end.call)))

-- ---- members of lists that are joined

module _ {A B : Type 0} (f : A → List B) where
  pub of_flat : (xs : List A) (y : B) → Contains (flat_map f xs) y → (x : A) × Contains xs x × Contains (f x) y
  of_flat [] y there = absurd (there_not y there)
  of_flat (x ∷ xs) y there = by_side (of_flat xs y) (in_both (f x) (flat_map f xs) y there)
    where
      by_side : (Contains (flat_map f xs) y → (z : A) × Contains xs z × Contains (f z) y) →
          Contains (f x) y ⊎ Contains (flat_map f xs) y → (z : A) × Contains (x ∷ xs) z × Contains (f z) y
      by_side more (inl here) = (x, there_first x xs, here)
      by_side more (inr there) = let r = more there in (r.0, there_later x r.0 xs r.1, r.2)

  pub in_flat : (xs : List A) (x : A) (y : B) → Contains xs x → Contains (f x) y → Contains (flat_map f xs) y
  in_flat [] x y there has = absurd (there_not x there)
  in_flat (z ∷ xs) x y there has = by_place (λ t. in_flat xs x y t has) (there_cases z x xs there)
    where
      by_place : (Contains xs x → Contains (flat_map f xs) y) → (z ≡ x) ⊎ Contains xs x →
          Contains (f z ++ flat_map f xs) y
      by_place more (inl is) = in_first (f z) (flat_map f xs) y (subst (λ w. Contains (f w) y) (sym is) has)
      by_place more (inr there) = in_second (f z) (flat_map f xs) y (more there)

pub only : {A : Type 0} (x y : A) → Contains (x ∷ []) y → x ≡ y
only x y there = by_place (there_cases x y [] there)
  where
    by_place : (x ≡ y) ⊎ Contains [] y → x ≡ y
    by_place (inl is) = is
    by_place (inr there) = absurd (there_not y there)

-- ---- a call begins

pub begins_only : (c : Event) (p q : Held) → Contains (begins c p) q →
    (entry_at p.pending c.thread c.call ≡ None) × (begun_held c p ≡ q)
begins_only c p q there = by_entry (entry_at p.pending c.thread c.call) refl there
  where
    by_entry : (o : Option Event) → entry_at p.pending c.thread c.call ≡ o →
        Contains (if is_none o then begun_held c p ∷ [] else []) q →
        (entry_at p.pending c.thread c.call ≡ None) × (begun_held c p ≡ q)
    by_entry None none there = (none, only (begun_held c p) q there)
    by_entry (Some x) is there = absurd (there_not q there)

pub begins_new : (c : Event) (p : Held) → entry_at p.pending c.thread c.call ≡ None →
    Contains (begins c p) (begun_held c p)
begins_new c p none = subst (λ o. Contains (if is_none o then begun_held c p ∷ [] else []) (begun_held c p))
    (sym none) (there_first (begun_held c p) [])

module _ (rows : List (Vec Outcome Global)) where
  abbrev goes : ℕ → Event → Event → ℕ → Type 0
  goes = Goes rows

  -- ---- what is left with an end is what takes effect

  -- the end is taken from a pair in which its call took effect
  record IsLeft (e : Event) (p q : Held) : Type 0 where
    pair : Held
    takes : Takes goes e (pair_of p) (pair_of pair)
    took : status_of (pair_of pair).calls e ≡ Took e
    is : record { state = pair.state; pending = ended e pair.pending } ≡ q

  in_row : (r : Option (Vec Outcome Global)) (o : Outcome) → Contains (row_of r) o →
      (row : Vec Outcome Global) × (r ≡ Some row) × Contains row.items o
  in_row None o there = absurd (there_not o there)
  in_row (Some row) o there = (row, refl, there)

  kept_left : (e : Event) (p q : Held) → IsEnd e → Contains (kept e p) q → IsLeft e p q
  kept_left e p q end there = by_test (is_noted e (entry_at p.pending e.thread e.call)) refl there
    where
      by_test : (b : Bool) → is_noted e (entry_at p.pending e.thread e.call) ≡ b →
          Contains (if b then record { state = p.state; pending = ended e p.pending } ∷ [] else []) q → IsLeft e p q
      by_test false h there = absurd (there_not q there)
      by_test true h there = record {
        pair = p;
        takes = Done (pair_of p);
        took = ap as_status (noted_is e (entry_at p.pending e.thread e.call) h) ∙ ap (as_called e) end;
        is = only (record { state = p.state; pending = ended e p.pending }) q there;
      }

  ends_left : (k : ℕ) (e : Event) (p q : Held) → IsEnd e → Contains (ends rows k e p) q → IsLeft e p q
  ends_left zero e p q end there = kept_left e p q end there
  ends_left (suc k) e p q end there =
      by_test (λ r. ends_left k e r q end) (has_taken (entry_at p.pending e.thread e.call)) refl there
    where
      by_open : ((r : Held) → Contains (ends rows k e r) q → IsLeft e r q) →
          has_taken (entry_at p.pending e.thread e.call) ≡ false → (o : Outcome) →
          Contains (row_of (slice_get rows p.state)) o → (b : Bool) → may_take p o ≡ b →
          Contains (if b then ends rows k e (taking p o) else []) q → IsLeft e p q
      by_open more none o inside false h there = absurd (there_not q there)
      by_open more none o inside true h there =
          let may = may_by p o h in
          let y = may.0 in
          let at = found_at p.pending o.end.thread o.end.call y.call y.is in
          let row = in_row (slice_get rows p.state) o inside in
          let left = more (taking p o) there in
          let is_end : IsEndOf y.call o.end = record {
            ends = may.1;
            thread = at.0;
            call = at.1;
          } in
          let entry : entry_at p.pending y.call.thread y.call.call ≡ Some y.call =
          ap (λ t. entry_at p.pending t y.call.call) (sym at.0)
          ∙ ap (entry_at p.pending o.end.thread) (sym at.1) ∙ y.is in
          record {
            pair = left.pair;
            takes = Take (pair_of p) (pair_of left.pair) y.call o.end o.after
                (λ f is. let t = took (entry_at p.pending e.thread e.call) f is in
                not_both (ap has_taken t.0 ∙ ap not t.1) none)
                (ap as_status entry ∙ ap (as_called y.call) y.is_call)
                is_end
                (record { row = row.0; at = row.1; there = row.2 })
                (subst (λ z. Takes goes e z (pair_of left.pair)) (taking_pair p o y.call y.call
                is_end y.is) left.takes);
            took = left.took;
            is = left.is;
          }

      by_test : ((r : Held) → Contains (ends rows k e r) q → IsLeft e r q) → (b : Bool) →
          has_taken (entry_at p.pending e.thread e.call) ≡ b →
          Contains (if b then kept e p else flat_map (further (ends rows k e) p) (row_of (slice_get rows p.state))) q →
          IsLeft e p q
      by_test more true h there = kept_left e p q end there
      by_test more false h there =
          let r = of_flat (further (ends rows k e) p) (row_of (slice_get rows p.state)) q there in
          by_open more h r.0 r.1 (may_take p r.0) refl r.2

  -- and the other way round
  record IsFound (k : ℕ) (e : Event) (p : Held) (q : Pair ℕ) : Type 0 where
    pair : Held
    there : Contains (ends rows k e p) (record { state = pair.state; pending = ended e pair.pending })
    is : pair_of pair ≡ q

  kept_found : (k : ℕ) (e : Event) (p : Held) → status_of (pair_of p).calls e ≡ Took e → IsFound k e p (pair_of p)
  kept_found k e p is = record { pair = p; there = by_steps k; is = refl }
    where
      entry : entry_at p.pending e.thread e.call ≡ Some e
      entry = (took (entry_at p.pending e.thread e.call) e is).0

      here : Contains (kept e p) (record { state = p.state; pending = ended e p.pending })
      here = subst (λ b. Contains
          {X = Held} (if b then record { state = p.state; pending = ended e p.pending } ∷ [] else []) (record
          { state = p.state; pending = ended e p.pending }))
          (sym (ap (is_noted e) entry ∙ (event_test e e).1 refl))
          (there_first (record { state = p.state; pending = ended e p.pending }) [])

      by_steps : (k : ℕ) → Contains (ends rows k e p) (record { state = p.state; pending = ended e p.pending })
      by_steps zero = here
      by_steps (suc k) =
          subst (λ b. Contains (if b then kept e p else flat_map (further (ends rows k e) p)
          (row_of (slice_get rows p.state)))
          (record { state = p.state; pending = ended e p.pending }))
          (sym (ap has_taken entry ∙ ap not (took (entry_at p.pending e.thread e.call) e is).1)) here

  open_status : (p : Held) (c e : Event) → IsEndOf c e → status_of (pair_of p).calls c ≡ Open c →
      (entry_at p.pending e.thread e.call ≡ Some c) × IsCall c
  open_status p c e end is =
      let o = opened (entry_at p.pending c.thread c.call) c is in
      (ap (λ t. entry_at p.pending t e.call) end.thread ∙ ap (entry_at p.pending c.thread) end.call ∙ o.0, o.1)

  ends_found : (e : Event) (p' q : Pair ℕ) → Takes goes e p' q → status_of q.calls e ≡ Took e →
      (k : ℕ) (p : Held) → p' ≡ pair_of p → opens p.pending ≤ k → IsFound k e p q
  ends_found e p' q (Done p'') took_e k p is few =
      let r = kept_found k e p (ap (λ (z : Pair ℕ). status_of z.calls e) (sym is) ∙ took_e) in
      record { pair = r.pair; there = r.there; is = r.is ∙ sym is }
  ends_found e p' q (Take p'' q'' c f m none open_c end leads more) took_e k p is few =
      let own = open_status p c f end (ap (λ (z : Pair ℕ). status_of z.calls c) (sym is) ∙ open_c) in
      let o : Outcome = record { end = f; after = m } in
      let less = opens_less f p.pending c end.ends own.0 own.1 in
      let same : record { state = m; calls = with_status p'.calls c (Took f) } ≡ pair_of (taking p o) =
      ap (λ (z : Pair ℕ). record { state = m; calls = with_status z.calls c (Took f) }) is
      ∙ sym (taking_pair p o c c end own.0) in
      let state : p'.state ≡ p.state = ap (λ (z : Pair ℕ). z.state) is in
      by_steps k few (λ j le. ends_found e (record { state = m; calls = with_status p'.calls c (Took f) })
      q more took_e j
      (taking p o) same le) (may_take_by p o c own.0 own.1 end.ends) less o refl refl state
    where
      none_taken : (z : Option Event) → ((g : Event) → as_status z ≡ Took g → ⊥) → has_taken z ≡ false
      none_taken None not_taken = refl
      none_taken (Some x) not_taken = by_call (is_called x.happening) refl
        where
          by_call : (b : Bool) → is_called x.happening ≡ b → not b ≡ false
          by_call true h = refl
          by_call false h = absurd (not_taken x (ap (as_called x) h))

      by_steps : (k : ℕ) → opens p.pending ≤ k →
          ((j : ℕ) → opens (taken f p.pending) ≤ j → IsFound j e (taking p (record { end = f; after = m })) q) →
          may_take p (record { end = f; after = m }) ≡ true → opens (taken f p.pending) < opens p.pending →
          (o : Outcome) → o.end ≡ f → o.after ≡ m → p'.state ≡ p.state → IsFound k e p q
      by_steps zero few later_on may less o same_end same_after state = absurd (omega (arith, few, less))
      by_steps (suc j) few later_on may less o same_end same_after state =
          let r = later_on j (omega (arith, few, less)) in
          let quiet = none_taken (entry_at p.pending e.thread e.call)
          (λ g h. none g (ap (λ (z : Pair ℕ). status_of z.calls e) is ∙ h)) in
          let row : slice_get rows p.state ≡ Some leads.row = ap (slice_get rows) (sym state) ∙ leads.at in
          let inside : Contains (row_of (slice_get rows p.state)) (record { end = f; after = m }) =
          subst (λ z. Contains (row_of z) (record { end = f; after = m })) (sym row) leads.there in
          record {
            pair = r.pair;
            there = subst (λ b. Contains
                (if b then kept e p else flat_map (further (ends rows j e) p) (row_of (slice_get rows p.state)))
                (record { state = r.pair.state; pending = ended e r.pair.pending })) (sym quiet)
                (in_flat (further (ends rows j e) p) (row_of (slice_get rows p.state)) (record { end = f; after = m })
                (record { state = r.pair.state; pending = ended e r.pair.pending }) inside
                (subst (λ b. Contains (if b then ends rows j e (taking p (record { end = f; after = m })) else [])
                (record { state = r.pair.state; pending = ended e r.pair.pending }))
                (sym may) r.there));
            is = r.is;
          }

  -- ---- along a history

  held_after : (h g : List Event) (p : Held) → Holds goes 0 g (pair_of p) → goes_along rows h p ≡ true →
      (q : Pair ℕ) × Holds goes 0 (g ++ h) q
  held_after [] g p held goes_on = (pair_of p, subst (λ l. Holds goes 0 l (pair_of p)) (sym (append-nil g)) held)
  held_after (e ∷ h) g p held goes_on =
      by_event (λ q. held_after h (g ++ e ∷ []) q) (is_called e.happening) refl goes_on
    where
      again : (q : Pair ℕ) × Holds goes 0 ((g ++ e ∷ []) ++ h) q → (q : Pair ℕ) × Holds goes 0 (g ++ e ∷ h) q
      again r = (r.0, subst (λ l. Holds goes 0 l r.0) (append_assoc g (e ∷ []) h) r.1)

      by_event : ((q : Held) → Holds goes 0 (g ++ e ∷ []) (pair_of q) → goes_along rows h q ≡ true →
          (z : Pair ℕ) × Holds goes 0 ((g ++ e ∷ []) ++ h) z) → (b : Bool) → is_called e.happening ≡ b →
          list_any (goes_along rows h) (if b then begins e p else ends rows (length p.pending) e p) ≡ true →
          (q : Pair ℕ) × Holds goes 0 (g ++ e ∷ h) q
      by_event more true call any =
          let r = any_there (goes_along rows h) (begins e p) any in
          again (more (begun_held e p) (subst (Holds goes 0 (g ++ e ∷ []))
          (sym (begun_pair e p call)) (Calls g (pair_of p) e held call))
          (ap (goes_along rows h) (begins_only e p r.0 r.1).1 ∙ r.2))
      by_event more false end any =
          let r = any_there (goes_along rows h) (ends rows (length p.pending) e p) any in
          let left = ends_left (length p.pending) e p r.0 end r.1 in
          again (more r.0 (subst (Holds goes 0 (g ++ e ∷ []))
          (sym (ended_pair e left.pair) ∙ ap pair_of left.is)
          (Ends g (pair_of p) (pair_of left.pair) e held left.takes end left.took)) r.2)

  -- the call that begins now isn't pending, if no event comes twice
  none_pending : RunsAreOnce goes 0 → (g : List Event) (p : Pair ℕ) (c : Event) (r : Held) → IsCall c →
      AreOnce (g ++ c ∷ []) → Holds goes 0 g p → pair_of r ≡ p → entry_at r.pending c.thread c.call ≡ None
  none_pending runs g p c r call once held is = by_entry (entry_at r.pending c.thread c.call) refl
    where
      k : IsLinked goes 0 g p
      k = linked goes 0 runs g p (once_first g c once) held

      not_called : (d : Event) → IsCall d → d.thread ≡ c.thread → d.call ≡ c.call → Contains g d → ⊥
      not_called d d_call t n there =
          apart g (c ∷ []) c once (subst (Contains g) (same_call d c d_call call t n) there) (there_first c [])

      by_status : (x : Event) → x.thread ≡ c.thread → x.call ≡ c.call → (b : Bool) → is_called x.happening ≡ b →
          IsSo g k.run (as_called x b) → ⊥
      by_status x t n true x_call so = not_called x so.0 t n so.1
      by_status x t n false end there =
          let w = call_of k.run x (serially_serial goes 0 p.state k.run k.serially) there end in
          not_called w.call w.is_call (sym w.ends.thread ∙ t) (sym w.ends.call ∙ n)
          (k.explains.called w.call w.there w.is_call)

      by_entry : (o : Option Event) → entry_at r.pending c.thread c.call ≡ o →
          entry_at r.pending c.thread c.call ≡ None
      by_entry None none = none
      by_entry (Some x) there =
          let at = found_at r.pending c.thread c.call x there in
          let status : p.calls c.thread c.call ≡ as_called x (is_called x.happening) =
          ap (λ (z : Pair ℕ). z.calls c.thread c.call) (sym is) ∙ ap as_status there in
          absurd (by_status x (sym at.0) (sym at.1) (is_called x.happening) refl
          (subst (IsSo g k.run) status (k.says c.thread c.call)))

  goes_before : RunsAreOnce goes 0 → (g : List Event) (q : Pair ℕ) → AreOnce g → Holds goes 0 g q → (h : List Event) →
      ((p : Held) → pair_of p ≡ q → goes_along rows h p ≡ true) → goes_along rows (g ++ h) first_held ≡ true
  goes_before runs g q once Starts h along = along first_held refl
  goes_before runs g q once (Calls g' p c held call) h along =
      ap (λ l. goes_along rows l first_held) (append_assoc g' (c ∷ []) h)
      ∙ goes_before runs g' p (once_first g' c once) held (c ∷ h) (λ r is. by_call r is (is_called c.happening) call)
    where
      by_call : (r : Held) → pair_of r ≡ p → (b : Bool) → b ≡ true →
          list_any (goes_along rows h) (if b then begins c r else ends rows (length r.pending) c r) ≡ true
      by_call r is true same =
          there_any (goes_along rows h) (begins c r) (begun_held c r)
          (begins_new c r (none_pending runs g' p c r call once held is))
          (along (begun_held c r) (begun_pair c r call
          ∙ ap (λ (z : Pair ℕ). record { state = z.state; calls = with_status z.calls c (Open c) }) is))
      by_call r is false same = absurd (not_both same refl)
  goes_before runs g q once (Ends g' p z e held takes end took_e) h along =
      ap (λ l. goes_along rows l first_held) (append_assoc g' (e ∷ []) h)
      ∙ goes_before runs g' p (once_first g' e once) held (e ∷ h) (λ r is. by_end r is (is_called e.happening) end)
    where
      by_end : (r : Held) → pair_of r ≡ p → (b : Bool) → b ≡ false →
          list_any (goes_along rows h) (if b then begins e r else ends rows (length r.pending) e r) ≡ true
      by_end r is true no_call = absurd (not_both refl no_call)
      by_end r is false no_call =
          let f = ends_found e p z takes took_e (length r.pending) r (sym is) (opens_few r.pending) in
          let new : Held = record { state = f.pair.state; pending = ended e f.pair.pending } in
          there_any (goes_along rows h) (ends rows (length r.pending) e r) new f.there
          (along new (ended_pair e f.pair
          ∙ ap (λ (y : Pair ℕ). record { state = y.state; calls = with_status y.calls e Idle }) f.is))

  pub goes_if_held : RunsAreOnce goes 0 → (h : List Event) → AreOnce h →
      (goes_along rows h first_held ≡ true) ↔ ((p : Pair ℕ) × Holds goes 0 h p)
  goes_if_held runs h once = (
    λ along. held_after h [] first_held Starts along,
    λ p. ap (λ l. goes_along rows l first_held) (sym (append-nil h))
        ∙ goes_before runs h p.0 once p.1 [] (λ r is. refl),
  )
