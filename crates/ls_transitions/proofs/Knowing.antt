-- Moves that are known are moves, and stay known while tables grow.
use Rattle.std.proofs.Common.{◌≡◌, ℕ, ◌<◌, true, List, [], ◌∷◌, ◌++◌, length, Option, Some, None, refl, sym}
use Rattle.std.proofs.Common.{ap, subst, ◌∙◌, ◌⊎◌, inl, inr}
use Rattle.std.specs.Prelude.{slice_get}
use Rattle.ls_events.specs.declared.value.Value.{Value}
use Rattle.ls_events.specs.declared.action.Action.{Action}
use Rattle.ls_events.specs.declared.action.Answer.{Answer}
use Rattle.ls_checked.specs.CheckedTree.{Class}
use Rattle.ls_meaning.specs.declared.sort.Sort.{Sort}
use Rattle.ls_meaning.specs.Store.{Store}
use Rattle.ls_meaning.specs.Effect.{Effect, Waits, Does, effect}
use Rattle.ls_meaning.specs.Threads.{Next, Goes, Ended, Trapped}
use Rattle.ls_source.specs.Calls.{Thread}
use Rattle.ls_transitions.specs.declared.moves.Step.{Step}
use Rattle.ls_transitions.specs.declared.moves.Move.{Move}
use Rattle.ls_transitions.specs.declared.moves.Move.TheVariants as moves
use Rattle.ls_transitions.specs.declared.rows.Row.{Row}
use Rattle.ls_transitions.specs.Tables.{Table, Grows, goes_on}
use Rattle.ls_transitions.specs.Moves.{IsMove}
use Rattle.ls_transitions.specs.Known.{Ends, Traps, Holds, Performs, NoneAfter, effect_consequence}
use Rattle.ls_transitions.specs.Known.{consequence_of, step_consequence, is_there, IsKnown, AreKnown, row_of}
use Rattle.ls_transitions.proofs.Keeping.{still_below, pushed_cases}
use Rattle.ls_transitions.proofs.Growing.{still_move}

-- What an effect comes to.

no_end : (a : Action Value) (e : Effect) → effect_consequence a e ≡ Ends → ⊥
no_end a Waits h = cc
no_end a (Does s b) h = cc

no_trap : (a : Action Value) (e : Effect) → effect_consequence a e ≡ Traps → ⊥
no_trap a Waits h = cc
no_trap a (Does s b) h = cc

no_gap : (a : Action Value) (e : Effect) → effect_consequence a e ≡ NoneAfter → ⊥
no_gap a Waits h = cc
no_gap a (Does s b) h = cc

only_waits : (a : Action Value) (e : Effect) → effect_consequence a e ≡ Holds → e ≡ Waits
only_waits a Waits h = refl
only_waits a (Does s b) h = cc

only_does : (a : Action Value) (e : Effect) (action : Action Value) (answer : Answer Value) (after : Store) →
    effect_consequence a e ≡ Performs action answer after →
    (a ≡ action) × (e ≡ Does after answer)
only_does a Waits action answer after h = cc
only_does a (Does s b) action answer after h = (cc, cc)

-- What a step comes to.

module _ (classes : List Class) (thread : ℕ) where
  ends_by : (n : Next) (s : Option Store) → consequence_of classes thread n s ≡ Ends → n ≡ Ended
  ends_by Ended s h = refl
  ends_by Trapped s h = cc
  ends_by (Goes a sort) None h = cc
  ends_by (Goes a sort) (Some x) h = absurd (no_end a (effect classes x thread a) h)

  traps_by : (n : Next) (s : Option Store) → consequence_of classes thread n s ≡ Traps → n ≡ Trapped
  traps_by Ended s h = cc
  traps_by Trapped s h = refl
  traps_by (Goes a sort) None h = cc
  traps_by (Goes a sort) (Some x) h = absurd (no_trap a (effect classes x thread a) h)

  record Held (n : Next) (s : Option Store) : Type 0 where
    from : Store
    action : Action Value
    sort : Sort
    from_is : s ≡ Some from
    asks : n ≡ Goes action sort
    waits : effect classes from thread action ≡ Waits

  held_by : (n : Next) (s : Option Store) → consequence_of classes thread n s ≡ Holds → Held n s
  held_by Ended s h = cc
  held_by Trapped s h = cc
  held_by (Goes a sort) None h = cc
  held_by (Goes a sort) (Some x) h = record {
    from = x;
    action = a;
    sort = sort;
    from_is = refl;
    asks = refl;
    waits = only_waits a (effect classes x thread a) h;
  }

  record Done (n : Next) (s o : Option Store) (step : Step) : Type 0 where
    from : Store
    to : Store
    sort : Sort
    from_is : s ≡ Some from
    to_is : o ≡ Some to
    asks : n ≡ Goes step.action sort
    does : effect classes from thread step.action ≡ Does to step.answer

  done_by : (n : Next) (s o : Option Store) (step : Step) →
      consequence_of classes thread n s ≡ step_consequence step o →
      Done n s o step
  done_by Ended s None step h = cc
  done_by Ended s (Some to) step h = cc
  done_by Trapped s None step h = cc
  done_by Trapped s (Some to) step h = cc
  done_by (Goes a sort) None None step h = cc
  done_by (Goes a sort) None (Some to) step h = cc
  done_by (Goes a sort) (Some x) None step h = absurd (no_gap a (effect classes x thread a) h)
  done_by (Goes a sort) (Some x) (Some to) step h =
      let does = only_does a (effect classes x thread a) step.action step.answer to h in
      record {
        from = x;
        to = to;
        sort = sort;
        from_is = refl;
        to_is = refl;
        asks = ap (λ k. Goes k sort) does.0;
        does = ap (λ k. effect classes x thread k) (sym does.0) ∙ does.1;
      }

thread_there : (o : Option Thread) → is_there o ≡ true → (w : Thread) × (o ≡ Some w)
thread_there None h = cc
thread_there (Some w) h = (w, refl)

-- a known move is a move
pub known_is : (t : Table) (thread store work : ℕ) (m : Move) →
    IsKnown t thread store work m →
    IsMove t thread store work m
known_is t thread store work moves.Ended k =
    ends_by t.file.classes thread (goes_on t work []) (slice_get t.stores store) k.comes_to
known_is t thread store work moves.Trapped k =
    traps_by t.file.classes thread (goes_on t work []) (slice_get t.stores store) k.comes_to
known_is t thread store work moves.Waits k =
    let h = held_by t.file.classes thread (goes_on t work []) (slice_get t.stores store) k.comes_to in
    record { from = h.from; from_is = h.from_is; action = h.action; sort = h.sort; asks = h.asks; waits = h.waits }
known_is t thread store work (moves.Acts step) k =
    let h = done_by t.file.classes thread (goes_on t work []) (slice_get t.stores store)
    (slice_get t.stores step.store) step k.comes_to in
    let rest = thread_there (slice_get t.works step.work) k.rest_there in
    record {
      from = h.from;
      from_is = h.from_is;
      to = h.to;
      to_is = h.to_is;
      rest = rest.0;
      rest_is = rest.1;
      sort = h.sort;
      asks = h.asks;
      does = h.does;
      continues = k.continues;
    }

-- a move can be known
pub is_known : (t : Table) (thread store work : ℕ) (m : Move) →
    store < length t.stores →
    work < length t.works →
    IsMove t thread store work m →
    IsKnown t thread store work m
is_known t thread store work moves.Ended at within h = record {
  store_there = at;
  work_there = within;
  comes_to = ap (λ n. consequence_of t.file.classes thread n (slice_get t.stores store)) h;
  rest_there = refl;
  continues = λ later. refl;
}
is_known t thread store work moves.Trapped at within h = record {
  store_there = at;
  work_there = within;
  comes_to = ap (λ n. consequence_of t.file.classes thread n (slice_get t.stores store)) h;
  rest_there = refl;
  continues = λ later. refl;
}
is_known t thread store work moves.Waits at within h = record {
  store_there = at;
  work_there = within;
  comes_to = ap (λ n. consequence_of t.file.classes thread n (slice_get t.stores store)) h.asks
      ∙ ap (consequence_of t.file.classes thread (Goes h.action h.sort)) h.from_is
      ∙ ap (effect_consequence h.action) h.waits;
  rest_there = refl;
  continues = λ later. refl;
}
is_known t thread store work (moves.Acts step) at within h = record {
  store_there = at;
  work_there = within;
  comes_to = ap (λ n. consequence_of t.file.classes thread n (slice_get t.stores store)) h.asks
      ∙ ap (consequence_of t.file.classes thread (Goes step.action h.sort)) h.from_is
      ∙ ap (effect_consequence step.action) h.does
      ∙ sym (ap (step_consequence step) h.to_is);
  rest_there = ap is_there h.rest_is;
  continues = h.continues;
}

-- the moves of a table that grows
pub still_known : (old new : Table) (rows : List Row) → Grows old new → AreKnown old rows → AreKnown new rows
still_known old new rows g known i r e =
    let k = known i r e in
    is_known new r.thread r.store r.work r.made (still_below old.stores new.stores r.store g.stores k.store_there)
    (still_below old.works new.works r.work g.works k.work_there)
    (still_move old new r.thread r.store r.work r.made g k.work_there
    (known_is old r.thread r.store r.work r.made k))

-- one more move
pub one_known : (t : Table) (rows more : List Row) (row : Row) →
    more ≡ rows ++ row ∷ [] →
    AreKnown t rows →
    IsKnown t row.thread row.store row.work row.made →
    AreKnown t more
one_known t rows more row e known new i r at =
    by (pushed_cases rows row i r (subst (λ l. slice_get l i ≡ Some r) e at))
  where
    by : (slice_get rows i ≡ Some r) ⊎ (row ≡ r) → IsKnown t r.thread r.store r.work r.made
    by (inl before) = known i r before
    by (inr last) = subst (λ x. IsKnown t x.thread x.store x.work x.made) last new

-- a move that was found among those that are known
pub known_move : (t : Table) (rows : List Row) (i thread store work : ℕ) (m : Move) →
    AreKnown t rows →
    slice_get rows i ≡ Some (row_of thread store work m) →
    IsMove t thread store work m
known_move t rows i thread store work m known at =
    known_is t thread store work m (known i (row_of thread store work m) at)

-- a move that was made just now, from numbers that were there before
pub known_now : (old new : Table) (thread store work : ℕ) (m : Move) →
    Grows old new →
    store < length old.stores →
    work < length old.works →
    IsMove new thread store work m →
    IsKnown new thread store work m
known_now old new thread store work m g at within h =
    is_known new thread store work m (still_below old.stores new.stores store g.stores at)
    (still_below old.works new.works work g.works within) h
