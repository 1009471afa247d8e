-- The steps of a run beside a serial one: one that is quiet, and one that takes the lock.
use Rattle.std.proofs.Common.{◌≡◌, ◌≢◌, ◌⊎◌, inl, inr, ℕ, zero, suc, ◌<◌, ◌≤◌, List, [], ◌∷◌, ◌++◌}
use Rattle.std.proofs.Common.{Contains, length, refl, sym, ap, ◌∙◌, subst, arith, append_assoc, append-nil, le_refl}
use Rattle.std.proofs.lemmas.Bool.{cases_eq}
use Rattle.std.proofs.lemmas.List.Elements.{Contains-append_left}
use Rattle.ls_events.specs.declared.value.Value.{Value}
use Rattle.ls_events.specs.declared.event.Event.{Event}
use Rattle.ls_events.specs.declared.action.Action.{Action}
use Rattle.ls_events.specs.declared.action.Action.TheVariants as act
use Rattle.ls_events.specs.declared.action.Answer.{Answer}
use Rattle.ls_events.specs.declared.action.Answer.TheVariants.{Done}
use Rattle.ls_checked.specs.CheckedTree.{File}
use Rattle.ls_checked.specs.CheckedProgram.{Program}
use Rattle.ls_meaning.specs.declared.sort.Sort.{Sort}
use Rattle.ls_meaning.specs.declared.sort.Sort.TheVariants.{NoValue}
use Rattle.ls_meaning.specs.Course.{Answers, Asks}
use Rattle.ls_meaning.specs.Store.{Store}
use Rattle.ls_meaning.specs.Effect.{Does, effect}
use Rattle.ls_meaning.specs.Threads.{Goes, next, one_call}
use Rattle.ls_meaning.specs.Runs.{State, answers_of, event_of, source_history, step}
use Rattle.ls_search_laws.specs.Stepping.{events_in}
use Rattle.ls_serial.specs.Serial.{Explains}
use Rattle.ls_linearizable.specs.Once.{AreOnce}
use Rattle.ls_one_at_a_time.proofs.Kit.{IsGuarded, IsTurn, Kit}
use Rattle.ls_one_at_a_time.proofs.Standing.{IsAtLock, IsOut, IsQuietStep, acted, called, count_stays}
use Rattle.ls_one_at_a_time.proofs.Standing.{IsUp, next_state, other, own, reach_acts, steps_so}
use Rattle.ls_one_at_a_time.proofs.Beside as beside
use Rattle.ls_one_at_a_time.proofs.Beside.{ahead_more, up_stays, goes_on, asks_at, stays_out}

module _ (file : File) (program : Program) (k : Kit file program)
    (once : (schedule : List ℕ) → AreOnce (source_history file program schedule)) where
  abbrev Ahead : State → ℕ → Answers → List Event → State → Type 0
  Ahead = beside.Ahead file program k once

  abbrev IsBeside : State → State → List Event → List Event → Type 0
  IsBeside = beside.IsBeside file program k once

  abbrev Out : State → State → List Event → List Event → ℕ → Type 0
  Out = beside.Out file program k once

  abbrev IsCalm : State → State → List Event → List Event → Type 0
  IsCalm = beside.IsCalm file program k once

  abbrev IsBusy : State → State → List Event → List Event → Type 0
  IsBusy = beside.IsBusy file program k once

  abbrev Holds : State → List Event → Type 0
  Holds = beside.Holds file program k once

  module _ (s s' : State) (g h : List Event) (b : IsBeside s s' g h) (t : ℕ) (up : IsUp file program s t)
      (up' : IsUp file program s' t) (lt : t < length program.threads) where
    abbrev After : Action Value → Answer Value → Store → Type 0
    After a x store = Holds (next_state s t store x) (h ++ events_in (event_of t a))

    -- ---- a quiet step

    module _ (y : IsQuietStep file program k s t (answers_of s' t) g h) where
      abbrev s1 : State
      s1 = next_state s t s.store y.answer

      abbrev h1 : List Event
      h1 = h ++ events_in (event_of t y.action)

      -- a quiet step does its action
      pub quiet_steps : step file program s t ≡ acted s t y.action y.answer s.store
      quiet_steps = steps_so file program s t y.action y.sort s.store y.answer up y.asks y.does

      quiet_beside : IsBeside s1 s' g h1
      quiet_beside = record {
        reached = reach_acts file program s h t y.action y.answer s.store b.reached quiet_steps;
        serial_run = b.serial_run;
        count = count_stays s t s.store y.answer ∙ b.count;
        count' = b.count';
        free = b.free;
        serial = b.serial;
        explains = y.explains;
      }

      own_place : Out s1 s' g h1 t
      own_place =
          subst (λ a. IsOut file program k t a (answers_of s' t) g h1)
          (sym (own s t s.store y.answer (subst (λ c. t < c) (sym b.count) lt))) y.place

      quiet_outs : (v : ℕ) → (v ≡ t) ⊎ (v ≢ t) → (v ≢ t → Out s s' g h v) → Out s1 s' g h1 v
      quiet_outs v (inl same) out = subst (Out s1 s' g h1) (sym same) own_place
      quiet_outs v (inr other_v) out =
          stays_out file program k once s s' g h (events_in (event_of t y.action)) t v s.store y.answer other_v
          (out other_v)

      -- a quiet step where nobody has the lock
      pub quiet_calm : IsCalm s s' g h → Holds s1 h1
      quiet_calm m = record {
        s' = s';
        g = g;
        beside = quiet_beside;
        mode = inl (record {
          store = m.store;
          outs = λ v. quiet_outs v (cases_eq v t) (λ d. m.outs v);
        });
      }

      -- a quiet step where another thread has the lock
      pub quiet_busy : (m : IsBusy s s' g h) → t ≢ m.u → Holds s1 h1
      quiet_busy m apart = record {
        s' = s';
        g = g;
        beside = quiet_beside;
        mode = inr (record {
          u = m.u;
          within = m.within;
          outs = λ v not_u. quiet_outs v (cases_eq v t) (λ d. m.outs v not_u);
          n = m.n;
          call = m.call;
          rest = m.rest;
          at = m.at;
          q = m.q;
          mine = other s t m.u s.store y.answer (λ e. apart (sym e)) ∙ m.mine;
          stands = m.stands;
          there = Contains-append_left h (events_in (event_of t y.action)) (called m.u m.n) m.there;
          held = m.held;
          up = up_stays file program k once s t m.u s.store y.answer m.up
              (goes_on file program k once s t y.action y.sort y.asks);
          z = m.z;
          ahead = m.ahead;
          store = m.store;
        });
      }

    -- ---- the lock is taken

    module _ (m : IsCalm s s' g h) (l : IsAtLock file program k s t (answers_of s' t) h) where
      -- the lock is taken
      pub taken : IsTurn file program s'.store t k.lock (k.Has t)
      taken = k.takes s'.store t b.free

      lock_does : effect file.classes s.store t k.lock ≡ Does taken.store Done
      lock_does = ap (λ z. effect file.classes z t k.lock) m.store ∙ taken.does

      -- the step that takes the lock
      pub lock_steps : step file program s t ≡ acted s t k.lock Done taken.store
      lock_steps = steps_so file program s t k.lock NoValue taken.store Done up l.asks lock_does

      abbrev c : IsGuarded file program k l.n l.call
      c = l.at.guarded.0

      alone : Ahead s' t [] g s'
      alone = record {
        reached = b.serial_run;
        mine = sym (append-nil (answers_of s' t));
        others = λ v other_v. refl;
        count = b.count';
      }

      asks_of : (q : Answers) (a : Action Value) (sort : Sort) → one_call file program l.n l.call q ≡ Asks a sort →
          next file program t (answers_of s' t ++ q) ≡ Goes a sort
      asks_of q a sort one = asks_at file program k once t l.n l.call l.others (answers_of s' t) q a sort l.at one

      -- alone up to a stage before the lock
      record IsAlone (i : ℕ) : Type 0 where
        z : State
        ahead : Ahead s' t (c.before i) (g ++ called t l.n ∷ []) z
        store : z.store ≡ s'.store

      alone_next : (i : ℕ) → i < c.last → IsAlone i → IsAlone (suc i)
      alone_next i less a =
          let e = c.entry i less in record {
            z = next_state a.z t a.z.store e.answer;
            ahead = subst (λ q. Ahead s' t q (g ++ called t l.n ∷ []) (next_state a.z t a.z.store e.answer)) e.more
                (subst (λ told. Ahead s' t (c.before i ++ e.answer ∷ []) told (next_state a.z t a.z.store e.answer))
                (ap (λ x. (g ++ called t l.n ∷ []) ++ events_in x) (e.silent t) ∙ append-nil (g ++ called t l.n ∷ []))
                (ahead_more file program k once s' a.z t (c.before i)
                (g ++ called t l.n ∷ []) e.action e.sort a.z.store e.answer up' lt a.ahead
                (asks_of (c.before i) e.action e.sort e.asks)
                (e.does a.z.store t (inl (subst k.Idle (sym a.store) b.free)))));
            store = a.store;
          }

      alone_at : (i : ℕ) → i ≤ c.last → IsAlone i
      alone_at zero le = record {
        z = next_state s' t s'.store Done;
        ahead = subst (λ q. Ahead s' t q (g ++ called t l.n ∷ []) (next_state s' t s'.store Done)) (sym c.begins)
            (ahead_more file program k once s' s' t [] g (act.Call l.n) NoValue s'.store Done up' lt alone
            (asks_of [] (act.Call l.n) NoValue c.call) refl);
        store = refl;
      }
      alone_at (suc i) le = alone_next i (omega arith) (alone_at i (omega arith))

      abbrev at_lock : IsAlone c.last
      at_lock = alone_at c.last (le_refl c.last)

      abbrev z4 : State
      z4 = next_state at_lock.z t taken.store Done

      no_more : (l : List Event) → l ++ events_in (event_of t k.lock) ≡ l
      no_more l = ap (λ x. l ++ events_in x) (k.lock_silent t) ∙ append-nil l

      alone4 : Ahead s' t (c.before c.last ++ Done ∷ []) (g ++ called t l.n ∷ []) z4
      alone4 = subst (λ told. Ahead s' t (c.before c.last ++ Done ∷ []) told z4) (no_more (g ++ called t l.n ∷ []))
          (ahead_more file program k once s' at_lock.z t (c.before c.last)
          (g ++ called t l.n ∷ []) k.lock NoValue taken.store Done up' lt
          at_lock.ahead (asks_of (c.before c.last) k.lock NoValue c.locks)
          (ap (λ y. effect file.classes y t k.lock) at_lock.store ∙ taken.does))

      -- after that step the thread has the lock
      pub lock_taken : After k.lock Done taken.store
      lock_taken = record {
        s' = s';
        g = g;
        beside = record {
          reached = reach_acts file program s h t k.lock Done taken.store b.reached lock_steps;
          serial_run = b.serial_run;
          count = count_stays s t taken.store Done ∙ b.count;
          count' = b.count';
          free = b.free;
          serial = b.serial;
          explains = subst (Explains g) (sym (no_more h)) b.explains;
        };
        mode = inr (record {
          u = t;
          within = lt;
          outs = λ v not_t. stays_out file program k once s s' g h
              (events_in (event_of t k.lock)) t v taken.store Done not_t (m.outs v);
          n = l.n;
          call = l.call;
          rest = l.others;
          at = l.at;
          q = [];
          mine =
              own s t taken.store Done (subst (λ c. t < c) (sym b.count) lt)
              ∙ ap (λ l. l ++ Done ∷ []) l.answers
              ∙ append_assoc (answers_of s' t) (c.before c.last) (Done ∷ []);
          stands = c.first;
          there = subst (λ x. Contains x (called t l.n)) (sym (no_more h)) l.there;
          held = taken.after;
          up = up_stays file program k once s t t taken.store Done up
              (goes_on file program k once s t k.lock NoValue l.asks);
          z = z4;
          ahead = alone4;
          store = refl;
        });
      }
