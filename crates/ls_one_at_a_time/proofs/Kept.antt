-- Each step of a run keeps a serial run beside it. Where no thread acts, none waits.
use Rattle.std.proofs.Common.{◌≡◌, ◌≢◌, ◌⊎◌, inl, inr, ℕ, ◌<◌, List}
use Rattle.std.proofs.Common.{◌++◌, length, refl, sym, ap, ◌∙◌, subst, arith, ◌≤◌}
use Rattle.std.proofs.lemmas.Bool.{cases_eq, cases_lt}
use Rattle.ls_events.specs.declared.value.Value.{Value}
use Rattle.ls_events.specs.declared.event.Event.{Event}
use Rattle.ls_events.specs.declared.action.Action.{Action}
use Rattle.ls_events.specs.declared.action.Answer.{Answer}
use Rattle.ls_events.specs.declared.action.Answer.TheVariants.{Done}
use Rattle.ls_checked.specs.CheckedTree.{File}
use Rattle.ls_checked.specs.CheckedProgram.{Program}
use Rattle.ls_meaning.specs.declared.sort.Sort.{Sort}
use Rattle.ls_meaning.specs.declared.sort.Sort.TheVariants.{NoValue}
use Rattle.ls_meaning.specs.Course.{Asks}
use Rattle.ls_meaning.specs.Store.{Store}
use Rattle.ls_meaning.specs.Effect.{Effect, Waits, Does, effect}
use Rattle.ls_meaning.specs.Threads.{Goes, Ended, next, one_call}
use Rattle.ls_meaning.specs.Runs.{State, Step, answers_of, event_of, source_history, step}
use Rattle.ls_meaning.specs.declared.step.Did.{Did}
use Rattle.ls_meaning.specs.Still.{IsActing, IsOver, IsStill}
use Rattle.ls_search_laws.specs.Stepping.{events_in, events_of}
use Rattle.ls_search_laws.proofs.Stepping.{acts_within}
use Rattle.ls_search_laws.proofs.Covering.{IsKept}
use Rattle.ls_linearizable.specs.Once.{AreOnce}
use Rattle.ls_one_at_a_time.proofs.Kit.{IsAsking, IsClosing, IsGuarded, Kit}
use Rattle.ls_one_at_a_time.proofs.Standing.{IsAtLock, IsComing, IsQuietStep, SetupEnded, acted}
use Rattle.ls_meaning.specs.declared.step.Did.TheVariants as did
use Rattle.ls_one_at_a_time.proofs.Standing.{IsUp, idle_not, waits_up, acts_up, all_up, up_ended, next_state}
use Rattle.ls_one_at_a_time.proofs.Standing.{outcome, steps_so, waits_so}
use Rattle.ls_one_at_a_time.proofs.Beside as beside
use Rattle.ls_one_at_a_time.proofs.Beside.{held_of, asks_at, goes_not}
use Rattle.ls_one_at_a_time.proofs.Steps.{quiet_steps, quiet_calm, quiet_busy, taken, lock_steps, lock_taken}
use Rattle.ls_one_at_a_time.proofs.Holding.{asks_now, inner_after, unlock_after}

module _ (file : File) (program : Program) (k : Kit file program)
    (once : (schedule : List ℕ) → AreOnce (source_history file program schedule)) where
  abbrev IsBeside : State → State → List Event → List Event → Type 0
  IsBeside = beside.IsBeside file program k once

  abbrev Out : State → State → List Event → List Event → ℕ → Type 0
  Out = beside.Out file program k once

  abbrev IsCalm : State → State → List Event → List Event → Type 0
  IsCalm = beside.IsCalm file program k once

  abbrev IsBusy : State → State → List Event → List Event → Type 0
  IsBusy = beside.IsBusy file program k once

  abbrev Holds : State → List Event → Type 0
  Holds = beside.Holds file program k once

  -- ---- each step keeps it

  abbrev Stepped : State → List Event → ℕ → Type 0
  Stepped s h t = Holds (step file program s t).after (h ++ events_of t (step file program s t).did)

  along : (s : State) (h : List Event) (t : ℕ) (a : Action Value) (x : Answer Value) (store : Store) →
      step file program s t ≡ acted s t a x store → Holds (next_state s t store x) (h ++ events_in (event_of t a)) →
      Stepped s h t
  along s h t a x store e holds = subst (λ (p : Step). Holds p.after (h ++ events_of t p.did)) (sym e) holds

  -- ---- where the setup has ended, it has ended in the serial run

  module _ (s s' : State) (g h : List Event) (b : IsBeside s s' g h) (mode : IsCalm s s' g h ⊎ IsBusy s s' g h) where
    comes_asks : (t : ℕ) (c : IsComing file program k t (answers_of s t) (answers_of s' t) g h) →
        (c.stage < c.at.guarded.0.last) ⊎ (c.at.guarded.0.last ≤ c.stage) →
        next file program t (answers_of s t) ≡ Ended → ⊥
    comes_asks t c (inl less) ended =
        let e = c.at.guarded.0.entry c.stage less in
        goes_not file program k once (sym (asks_at file program k once t c.n c.call c.others (answers_of s' t)
        (c.at.guarded.0.before c.stage) e.action e.sort c.at
        e.asks) ∙ ap (next file program t) (sym c.answers) ∙ ended)
    comes_asks t c (inr past) ended =
        let w = c.within in
        let same : c.stage ≡ c.at.guarded.0.last = omega arith in
        goes_not file program k once (sym (asks_at file program k once t c.n c.call c.others (answers_of s' t)
        (c.at.guarded.0.before c.at.guarded.0.last) k.lock
        NoValue c.at c.at.guarded.0.locks)
        ∙ ap (next file program t) (sym (c.answers ∙ ap (λ j. answers_of s' t ++ c.at.guarded.0.before j) same))
        ∙ ended)

    out_ended : Out s s' g h 0 → SetupEnded file program s → SetupEnded file program s'
    out_ended (inl r) ended = ap (next file program 0) (sym r.same) ∙ ended
    out_ended (inr (inl c)) ended = absurd (comes_asks 0 c (cases_lt c.stage c.at.guarded.0.last) ended)
    out_ended (inr (inr l)) ended = absurd (goes_not file program k once (sym l.asks ∙ ended))

    busy_not : (m : IsBusy s s' g h) → next file program m.u (answers_of s m.u) ≡ Ended → ⊥
    busy_not m ended = by_stands (m.at.guarded.0.stands m.q m.stands)
      where
        asks_this : (a : Action Value) (sort : Sort) →
            one_call file program m.n m.call (held_of file program k once m.n m.call m.at.guarded.0 m.q) ≡ Asks a
            sort → ⊥
        asks_this a sort one = goes_not file program k once (sym
            (asks_at file program k once m.u m.n m.call m.rest (answers_of s' m.u)
            (held_of file program k once m.n m.call m.at.guarded.0 m.q) a sort m.at one)
            ∙ ap (next file program m.u) (sym m.mine) ∙ ended)

        by_stands : IsAsking file program k m.n m.call m.at.guarded.0.body
            (held_of file program k once m.n m.call m.at.guarded.0) m.q
            ⊎ IsClosing file program k m.n m.call m.at.guarded.0.body
            (held_of file program k once m.n m.call m.at.guarded.0) m.q → ⊥
        by_stands (inl a) = asks_this a.action a.sort a.asks
        by_stands (inr d) = asks_this k.unlock NoValue d.asks

    setup_follows : IsCalm s s' g h ⊎ IsBusy s s' g h → SetupEnded file program s → SetupEnded file program s'
    setup_follows (inl m) ended = out_ended (m.outs 0) ended
    setup_follows (inr m) ended = by_number (cases_eq 0 m.u)
      where
        by_number : (0 ≡ m.u) ⊎ (0 ≢ m.u) → SetupEnded file program s'
        by_number (inl e) = absurd (busy_not m
            (subst (λ v. next file program v (answers_of s v) ≡ Ended) e ended))
        by_number (inr ne) = out_ended (m.outs 0 ne) ended

    -- so what has started has started there
    up_follows : (t : ℕ) → IsUp file program s t → IsUp file program s' t
    up_follows t up = by_number (cases_eq t 0)
      where
        by_number : (t ≡ 0) ⊎ (t ≢ 0) → IsUp file program s' t
        by_number (inl e) = subst (IsUp file program s') (sym e) refl
        by_number (inr ne) = all_up file program s' t (setup_follows mode (up_ended file program s t ne up))

  module _ (s s' : State) (g h : List Event) (b : IsBeside s s' g h) (t : ℕ)
      (acts : IsActing (step file program s t).did) where
    lt : t < length program.threads
    lt = acts_within file program s t acts

    up : IsUp file program s t
    up = acts_up file program s t acts

    calm_kept : IsCalm s s' g h → Stepped s h t
    calm_kept m =
        let up' = up_follows s s' g h b (inl m) t up in
        by_outcome up' (outcome file program k once s t (answers_of s' t) g h up b.reached
        (inl (subst k.Idle (sym m.store) b.free)) b.explains (m.outs t))
      where
        by_outcome : IsUp file program s' t → ((step file program s t).did ≡ did.Idle) ⊎
            (IsQuietStep file program k s t (answers_of s' t) g h
            ⊎ IsAtLock file program k s t (answers_of s' t) h) → Stepped s h t
        by_outcome up' (inl still) = absurd (idle_not (step file program s t).did still acts)
        by_outcome up' (inr (inl y)) = along s h t y.action y.answer s.store
            (quiet_steps file program k once s s' g h b t up up' lt y)
            (quiet_calm file program k once s s' g h b t up up' lt y m)
        by_outcome up' (inr (inr l)) = along s h t k.lock Done
            (taken file program k once s s' g h b t up up' lt m l).store
            (lock_steps file program k once s s' g h b t up up' lt m l)
            (lock_taken file program k once s s' g h b t up up' lt m l)

    module _ (m : IsBusy s s' g h) where
      others_kept : t ≢ m.u → Stepped s h t
      others_kept apart =
          let up' = up_follows s s' g h b (inr m) t up in
          by_outcome up' (outcome file program k once s t (answers_of s' t) g h up b.reached
          (inr (m.u, m.held)) b.explains (m.outs t apart))
        where
          by_outcome : IsUp file program s' t → ((step file program s t).did ≡ did.Idle) ⊎
              (IsQuietStep file program k s t (answers_of s' t) g h
              ⊎ IsAtLock file program k s t (answers_of s' t) h) → Stepped s h t
          by_outcome up' (inl still) = absurd (idle_not (step file program s t).did still acts)
          by_outcome up' (inr (inl y)) = along s h t y.action y.answer s.store
              (quiet_steps file program k once s s' g h b t up up' lt y)
              (quiet_busy file program k once s s' g h b t up up' lt y m apart)
          by_outcome up' (inr (inr l)) = absurd (waits_so file program s t k.lock NoValue up l.asks
              (k.waits s.store m.u t (λ e. apart (sym e)) m.held) acts)

      abbrev here : IsGuarded file program k m.n m.call
      here = m.at.guarded.0

      own_kept : IsActing (step file program s m.u).did → Stepped s h m.u
      own_kept acting = by_stands (here.stands m.q m.stands)
        where
          here_up : IsUp file program s m.u
          here_up = acts_up file program s m.u acting

          here_up' : IsUp file program s' m.u
          here_up' = up_follows s s' g h b (inr m) m.u here_up

          by_effect : (a : IsAsking file program k m.n m.call here.body
              (held_of file program k once m.n m.call here) m.q) → (e : Effect) →
              effect file.classes s.store m.u a.action ≡ e → Stepped s h m.u
          by_effect a Waits does = absurd (waits_so file program s m.u a.action a.sort here_up
              (asks_now file program k once s s' g h b m.u here_up here_up' m.within m here_up here_up' a.action
              a.sort a.asks) does acting)
          by_effect a (Does store x) does = inner_after file program k once s s' g h b m.u here_up here_up' m.within m
              here_up here_up' a store x
              does

          by_stands : IsAsking file program k m.n m.call here.body (held_of file program k once m.n m.call here) m.q
              ⊎ IsClosing file program k m.n m.call here.body (held_of file program k once m.n m.call here) m.q →
              Stepped s h m.u
          by_stands (inl a) = by_effect a (effect file.classes s.store m.u a.action) refl
          by_stands (inr d) = unlock_after file program k once s s' g h b m.u here_up here_up' m.within m here_up
              here_up' d

      busy_kept : (t ≡ m.u) ⊎ (t ≢ m.u) → Stepped s h t
      busy_kept (inr apart) = others_kept apart
      busy_kept (inl same) = subst (Stepped s h) (sym same)
          (own_kept (subst (λ v. IsActing (step file program s v).did) same acts))

    any_kept : IsCalm s s' g h ⊎ IsBusy s s' g h → Stepped s h t
    any_kept (inl m) = calm_kept m
    any_kept (inr m) = busy_kept m (cases_eq t m.u)

  -- each step of a run keeps a serial run beside it
  pub kept : IsKept file program Holds
  kept s h t x acts = any_kept s x.s' x.g h x.beside t acts x.mode

  -- ---- where no thread acts, none waits

  waits_not : {a : Action Value} {x : Answer Value} → did.Acted a x ≡ did.Waits → ⊥
  waits_not p = cc

  idle_waits : did.Idle ≡ did.Waits → ⊥
  idle_waits p = cc

  acted_not : (s : State) (t : ℕ) (a : Action Value) (x : Answer Value) (store : Store) →
      step file program s t ≡ acted s t a x store → (step file program s t).did ≡ did.Waits → ⊥
  acted_not s t a x store e w = waits_not (sym (ap (λ (p : Step). p.did) e) ∙ w)

  module _ (s s' : State) (g h : List Event) (b : IsBeside s s' g h) where
    -- the thread that has the lock acts
    holder_acts : (m : IsBusy s s' g h) → IsActing (step file program s m.u).did
    holder_acts m = by_stands (m.at.guarded.0.stands m.q m.stands)
      where
        asks_so : (a : Action Value) (sort : Sort) →
            one_call file program m.n m.call (held_of file program k once m.n m.call m.at.guarded.0 m.q) ≡ Asks a sort →
            next file program m.u (answers_of s m.u) ≡ Goes a sort
        asks_so a sort one = ap (next file program m.u) m.mine
            ∙ asks_at file program k once m.u m.n m.call m.rest (answers_of s' m.u)
            (held_of file program k once m.n m.call m.at.guarded.0 m.q) a sort m.at one

        acting : (a : Action Value) (sort : Sort) (store : Store) (x : Answer Value) →
            next file program m.u (answers_of s m.u) ≡ Goes a sort → effect file.classes s.store m.u a ≡ Does store x →
            IsActing (step file program s m.u).did
        acting a sort store x asks does = subst (λ (p : Step). IsActing p.did)
            (sym (steps_so file program s m.u a sort store x m.up asks does)) tt

        by_effect : (a : IsAsking file program k m.n m.call m.at.guarded.0.body
            (held_of file program k once m.n m.call m.at.guarded.0) m.q) →
            (e : Effect) → effect file.classes s.store m.u a.action ≡ e → IsActing (step file program s m.u).did
        by_effect a Waits does = absurd (a.acts s.store m.u does)
        by_effect a (Does store x) does = acting a.action a.sort store x (asks_so a.action a.sort a.asks) does

        by_stands : IsAsking file program k m.n m.call m.at.guarded.0.body
            (held_of file program k once m.n m.call m.at.guarded.0) m.q
            ⊎ IsClosing file program k m.n m.call m.at.guarded.0.body
            (held_of file program k once m.n m.call m.at.guarded.0) m.q →
            IsActing (step file program s m.u).did
        by_stands (inl a) = by_effect a (effect file.classes s.store m.u a.action) refl
        by_stands (inr d) =
            let turn = k.frees s.store m.u m.held in
            acting k.unlock NoValue turn.store Done (asks_so k.unlock NoValue d.asks) turn.does

    calm_waits : IsCalm s s' g h → (t : ℕ) → (step file program s t).did ≡ did.Waits → ⊥
    calm_waits m t w =
        let up = waits_up file program s t w in
        by_outcome up (outcome file program k once s t (answers_of s' t) g h up b.reached
        (inl (subst k.Idle (sym m.store) b.free)) b.explains (m.outs t))
      where
        by_outcome : IsUp file program s t → ((step file program s t).did ≡ did.Idle) ⊎
            (IsQuietStep file program k s t (answers_of s' t) g h
            ⊎ IsAtLock file program k s t (answers_of s' t) h) → ⊥
        by_outcome _ (inl idle) = idle_waits (sym idle ∙ w)
        by_outcome up (inr (inl y)) = acted_not s t y.action y.answer s.store
            (steps_so file program s t y.action y.sort s.store y.answer up y.asks y.does) w
        by_outcome up (inr (inr l)) =
            let turn = k.takes s'.store t b.free in
            acted_not s t k.lock Done turn.store
            (steps_so file program s t k.lock NoValue turn.store Done up l.asks
            (ap (λ z. effect file.classes z t k.lock) m.store ∙ turn.does)) w

    still_not : (d : Did) → IsActing d → IsStill d → ⊥
    still_not (did.Acted a x) acts still = still
    still_not did.Waits acts still = acts
    still_not did.Idle acts still = acts

    none_waits : IsCalm s s' g h ⊎ IsBusy s s' g h → IsOver file program s → (t : ℕ) →
        (step file program s t).did ≡ did.Waits → ⊥
    none_waits (inl m) over t w = calm_waits m t w
    none_waits (inr m) over t w = still_not (step file program s m.u).did (holder_acts m) (over m.u)

  -- where no thread acts, none waits
  pub over_waits : (s : State) (h : List Event) → Holds s h → IsOver file program s → (t : ℕ) →
      (step file program s t).did ≡ did.Waits → ⊥
  over_waits s h x over t w = none_waits s x.s' x.g h x.beside x.mode over t w
