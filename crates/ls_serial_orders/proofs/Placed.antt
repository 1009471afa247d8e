-- Calls that are placed one behind another are a run that explains the history.
use Rattle.std.proofs.Common.{◌≡◌, ◌⊎◌, inl, inr, ℕ, ◌+◌, ◌<◌, ◌≤◌, List, [], ◌∷◌, ◌++◌, Option, Some, None, Contains}
use Rattle.std.proofs.Common.{append-nil, drop, length, slice_get, suc, take, zero, refl, sym, ap, ◌∙◌, subst, arith}
use Rattle.std.proofs.lemmas.Bool.{cases_lt}
use Rattle.std.specs.declared.vec.Vec.{Vec}
use Rattle.std.specs.declared.alloc.Global.{Global}
use Rattle.ls_events.specs.declared.event.Event.{Event}
use Rattle.ls_serial.specs.Serial.{AreCalled, AreEnded, IsEnd, KeepsOrder}
use Rattle.ls_serial.proofs.Lists.{get_contains, some_is}
use Rattle.ls_serial.proofs.Steps.{not_both}
use Rattle.ls_serial_search.specs.Following.{called}
use Rattle.ls_linearizable.proofs.There.{there_cases, there_first, there_later, there_not}
use Rattle.ls_automaton.specs.declared.outcome.Outcome.{Outcome}
use Rattle.ls_automaton.specs.Automaton.{Serially}
use Rattle.ls_automaton.specs.Held.{row_of}
use Rattle.ls_automaton.specs.Tables.{Goes}
use Rattle.ls_automaton.proofs.Ending.{drop_all}
use Rattle.ls_automaton.proofs.Holding.{serially_more}
use Rattle.ls_automaton.proofs.Lists.{append_assoc, get_first, get_last, in_both, in_take_first, take_first}
use Rattle.ls_serial_orders.specs.declared.placing.Placed.{Placed}
use Rattle.ls_serial_orders.specs.Placing.{ArePlaced, ComesFrom, ExplainsBy, HasRun, IsFirstLayer, IsNext, IsPlaced}
use Rattle.ls_serial_orders.specs.Placing.{MayCome, run_of}

-- ---- runs of ends

pub run_more : (ends : List Event) (e : Event) →
    run_of (ends ++ e ∷ []) ≡ run_of ends ++ called e.thread e.call ∷ e ∷ []
run_more [] e = refl
run_more (x ∷ ends) e = ap (λ l. called x.thread x.call ∷ x ∷ l) (run_more ends e)

pub in_run : (ends : List Event) (x : Event) → Contains ends x → Contains (run_of ends) x
in_run [] x there = absurd (there_not x there)
in_run (e ∷ ends) x there = by_place (in_run ends x) (there_cases e x ends there)
  where
    by_place : (Contains ends x → Contains (run_of ends) x) → (e ≡ x) ⊎ Contains ends x →
        Contains (called e.thread e.call ∷ e ∷ run_of ends) x
    by_place more (inl is) = there_later (called e.thread e.call) x (e ∷ run_of ends)
        (subst (Contains (e ∷ run_of ends)) is (there_first e (run_of ends)))
    by_place more (inr later) =
        there_later (called e.thread e.call) x (e ∷ run_of ends) (there_later e x (run_of ends) (more later))

drop_suc : (ends : List Event) (i : ℕ) (e : Event) → slice_get ends i ≡ Some e → drop i ends ≡ e ∷ drop (suc i) ends
drop_suc [] i e at = absurd (nothing at)
  where
    nothing : None ≡ Some e → ⊥
    nothing h = cc
drop_suc (x ∷ ends) zero e at = ap (λ z. z ∷ drop 0 ends) (some_is at)
drop_suc (x ∷ ends) (suc i) e at = drop_suc ends i e at

drop_at : (ends : List Event) (i : ℕ) (e : Event) → slice_get ends i ≡ Some e → drop i ends ≡ e ∷ drop (i + 1) ends
drop_at ends i e at =
    let same : suc i ≡ i + 1 = omega arith in drop_suc ends i e at ∙ ap (λ n. e ∷ drop n ends) same

-- one call more of the run, and its end
pub run_on : (ends : List Event) (i : ℕ) (e : Event) (run mid new : List Event) → slice_get ends i ≡ Some e →
    mid ≡ run ++ called e.thread e.call ∷ [] → new ≡ mid ++ e ∷ [] →
    run ++ run_of (drop i ends) ≡ run_of ends → new ++ run_of (drop (i + 1) ends) ≡ run_of ends
run_on ends i e run mid new at one two so =
    ap (λ l. l ++ rest) (two ∙ ap (λ l. l ++ e ∷ []) one)
    ∙ append_assoc (run ++ called e.thread e.call ∷ []) (e ∷ []) rest
    ∙ append_assoc run (called e.thread e.call ∷ []) (e ∷ rest)
    ∙ ap (λ l. run ++ run_of l) (sym (drop_at ends i e at)) ∙ so
  where
    rest : List Event
    rest = run_of (drop (i + 1) ends)

pub run_done : (ends : List Event) (i : ℕ) (run : List Event) → length ends ≤ i →
    run ++ run_of (drop i ends) ≡ run_of ends → run ≡ run_of ends
run_done ends i run all so =
    sym (append-nil run) ∙ ap (λ l. run ++ run_of l) (sym (drop_all ends i all)) ∙ so

-- an element of the last two
last_two : (xs : List Event) (c e : Event) (j : ℕ) (x : Event) → slice_get (xs ++ c ∷ e ∷ []) j ≡ Some x →
    length xs ≤ j → (c ≡ x) ⊎ (e ≡ x)
last_two xs c e j x at le =
    by_last (get_last (xs ++ c ∷ []) e j x (subst (λ l. slice_get l j ≡ Some x)
    (sym (append_assoc xs (c ∷ []) (e ∷ []))) at))
  where
    by_first : (j < length xs) ⊎ ((j ≡ length xs) × (c ≡ x)) → (c ≡ x) ⊎ (e ≡ x)
    by_first (inl less) = absurd (omega (arith, le, less))
    by_first (inr is) = inl is.1

    by_last : (j < length (xs ++ c ∷ [])) ⊎ ((j ≡ length (xs ++ c ∷ [])) × (e ≡ x)) → (c ≡ x) ⊎ (e ≡ x)
    by_last (inl less) =
        by_first (get_last xs c j x (get_first (xs ++ c ∷ []) (e ∷ []) j x less (subst (λ l. slice_get l j ≡ Some x)
        (sym (append_assoc xs (c ∷ []) (e ∷ []))) at)))
    by_last (inr is) = inr is.1

module _ (rows : List (Vec Outcome Global)) (h : List Event) where
  goes_of : (r : Option (Vec Outcome Global)) (n : ℕ) (c : Event) (o : Outcome) → slice_get rows n ≡ r →
      Contains (row_of r) o → Goes rows n c o.end o.after
  goes_of None n c o is there = absurd (there_not o there)
  goes_of (Some row) n c o is there = record { row = row; at = is; there = there }

  -- ---- one call more

  module _ (ends : List Event) (state : ℕ) (o : Outcome) (k : IsPlaced rows h ends state) (may : MayCome h ends o.end)
      (there : Contains (row_of (slice_get rows state)) o) where
    abbrev e : Event
    e = o.end

    abbrev c : Event
    c = called e.thread e.call

    more_called : AreCalled (run_of ends ++ c ∷ e ∷ []) h
    more_called x inside call = by_part (in_both (run_of ends) (c ∷ e ∷ []) x inside)
      where
        by_second : (e ≡ x) ⊎ Contains [] x → Contains h x
        by_second (inl is) = absurd (not_both x call (subst IsEnd is may.0))
        by_second (inr none) = absurd (there_not x none)

        by_first : (c ≡ x) ⊎ Contains (e ∷ []) x → Contains h x
        by_first (inl is) = subst (Contains h) is may.1
        by_first (inr later) = by_second (there_cases e x [] later)

        by_part : Contains (run_of ends) x ⊎ Contains (c ∷ e ∷ []) x → Contains h x
        by_part (inl old) = k.called x old call
        by_part (inr new) = by_first (there_cases c x (e ∷ []) new)

    more_order : KeepsOrder (run_of ends ++ c ∷ e ∷ []) h
    more_order x i j call at inside = by_place (cases_lt j (length (run_of ends)))
      where
        by_two : length (run_of ends) ≤ j → (c ≡ x) ⊎ (e ≡ x) →
            AreEnded (take i h) (take j (run_of ends ++ c ∷ e ∷ []))
        by_two le (inl is) y early end =
            in_take_first (run_of ends) (c ∷ e ∷ []) j y le
            (in_run ends y (may.3 i (at ∙ ap Some (sym is)) y early end))
        by_two le (inr is) y early end = absurd (not_both x call (subst IsEnd is may.0))

        by_place : (j < length (run_of ends)) ⊎ (length (run_of ends) ≤ j) →
            AreEnded (take i h) (take j (run_of ends ++ c ∷ e ∷ []))
        by_place (inl less) =
            subst (AreEnded (take i h)) (sym (take_first (run_of ends) (c ∷ e ∷ []) j (omega (arith, less))))
            (k.order x i j call at (get_first (run_of ends) (c ∷ e ∷ []) j x less inside))
        by_place (inr le) = by_two le (last_two (run_of ends) c e j x inside le)

    pub placed_more : IsPlaced rows h (ends ++ e ∷ []) o.after
    placed_more = record {
      serially = subst (λ g. Serially (Goes rows) 0 g o.after) (sym (run_more ends e))
          (serially_more (Goes rows) 0 state o.after (run_of ends) c e k.serially refl
          (record { ends = may.0; thread = refl; call = refl })
          (goes_of (slice_get rows state) state c o refl there));
      called = subst (λ g. AreCalled g h) (sym (run_more ends e)) more_called;
      order = subst (λ g. KeepsOrder g h) (sym (run_more ends e)) more_order;
    }

  -- ---- layers

  nothing_is : IsPlaced rows h [] 0
  nothing_is = record {
    serially = refl;
    called = λ x there call. absurd (there_not x there);
    order = λ x i j call at there. absurd (there_not x (get_contains [] j x there));
  }

  pub first_placed : (layer : List Placed) → IsFirstLayer layer → ArePlaced rows h layer
  first_placed layer f p there = by_place (there_cases f.placed p [] (subst (λ l. Contains l p) f.is there))
    where
      by_place : (f.placed ≡ p) ⊎ Contains [] p → IsPlaced rows h p.ends.items p.state
      by_place (inl is) = subst (λ (q : Placed). IsPlaced rows h q.ends.items q.state) is
          (subst (λ l. IsPlaced rows h l f.placed.state) (sym f.ends)
          (subst (IsPlaced rows h []) (sym f.state) nothing_is))
      by_place (inr none) = absurd (there_not p none)

  -- the same layer
  pub next_of : (l layer next : List Placed) → l ≡ layer → IsNext rows h l next → IsNext rows h layer next
  next_of l layer next is n = subst (λ x. IsNext rows h x next) is n

  pub next_placed : (layer next : List Placed) → ArePlaced rows h layer → IsNext rows h layer next →
      ArePlaced rows h next
  next_placed layer next are n q there =
      let from : ComesFrom rows h layer q = n.came q there in
      let step = from.comes.step in
      subst (λ l. IsPlaced rows h l q.state) (sym step.ends)
      (subst (IsPlaced rows h (from.placed.ends.items ++ from.comes.outcome.end ∷ [])) (sym step.state)
      (placed_more from.placed.ends.items from.placed.state from.comes.outcome (are from.placed from.there) step.may
      from.comes.there))

  -- a run that is found explains the history
  pub run_explains : (layer : List Placed) (run : List Event) → ArePlaced rows h layer → HasRun h layer run →
      ExplainsBy rows h run
  run_explains layer run are has =
      let k = are has.placed has.there in
      subst (ExplainsBy rows h) (sym has.is) (record {
        last = has.placed.state;
        serially = k.serially;
        explains = record {
          ended = λ x there end. in_run has.placed.ends.items x (has.ended x there end);
          called = k.called;
          order = k.order;
        };
      })
