-- The steps of a run beside a serial one: those of the thread that has the lock, up to its unlock.
use Rattle.std.proofs.Common.{◌≡◌, ◌≢◌, ◌⊎◌, inl, inr, ℕ, ◌+◌, ◌<◌, List, [], ◌∷◌, ◌++◌}
use Rattle.std.proofs.Common.{Option, Some, length, refl, sym, ap, ◌∙◌, subst, append_assoc, append-nil}
use Rattle.std.proofs.lemmas.Bool.{cases_eq}
use Rattle.std.proofs.lemmas.List.Elements.{Contains-append_right, Contains-push}
use Rattle.ls_events.specs.declared.value.Value.{Value}
use Rattle.ls_events.specs.declared.event.Event.{Event}
use Rattle.ls_events.specs.declared.event.Happening.TheVariants.{Returned, Trapped as HasTrapped}
use Rattle.ls_events.specs.declared.action.Action.{Action}
use Rattle.ls_events.specs.declared.action.Action.TheVariants as act
use Rattle.ls_events.specs.declared.action.Answer.{Answer}
use Rattle.ls_events.specs.declared.action.Answer.TheVariants.{Done}
use Rattle.ls_checked.specs.CheckedTree.{File}
use Rattle.ls_checked.specs.CheckedProgram.{Program}
use Rattle.ls_meaning.specs.declared.sort.Sort.{Sort}
use Rattle.ls_meaning.specs.declared.sort.Sort.TheVariants.{NoValue}
use Rattle.ls_meaning.specs.Course.{Answers, Evaluated, Asks}
use Rattle.ls_meaning.specs.Store.{Store}
use Rattle.ls_meaning.specs.Effect.{Does, effect}
use Rattle.ls_meaning.specs.Threads.{Next, Goes, after_call, all_calls, next, one_call}
use Rattle.ls_meaning.specs.Runs.{State, Step, answers_of, event_of, source_history, step}
use Rattle.ls_search_laws.specs.Stepping.{events_in, events_of}
use Rattle.ls_serial.specs.Serial.{Explains, IsEndOf}
use Rattle.ls_linearizable.specs.Once.{AreOnce}
use Rattle.ls_one_at_a_time.proofs.Guarded.{EndsSo}
use Rattle.ls_one_at_a_time.proofs.Kit.{IsAsking, IsClosing, IsGuarded, IsTurn, Kit}
use Rattle.ls_one_at_a_time.proofs.Explained.{one_more, serial_pair}
use Rattle.ls_one_at_a_time.proofs.Standing.{AreGuarded, CallsFrom, Gone, IsAt, IsLeaving, IsOut}
use Rattle.ls_one_at_a_time.proofs.Standing.{Reached, Rest, acted, called, continues, count_stays}
use Rattle.ls_one_at_a_time.proofs.Standing.{IsUp, next_state, other, out_later, own, reach_acts, steps_so}
use Rattle.ls_one_at_a_time.proofs.Beside as beside
use Rattle.ls_one_at_a_time.proofs.Beside.{ahead_more, up_stays, goes_on, asks_at, stays_out}

module _ (file : File) (program : Program) (k : Kit file program)
    (once : (schedule : List ℕ) → AreOnce (source_history file program schedule)) where
  abbrev Ahead : State → ℕ → Answers → List Event → State → Type 0
  Ahead = beside.Ahead file program k once

  abbrev IsBeside : State → State → List Event → List Event → Type 0
  IsBeside = beside.IsBeside file program k once

  abbrev Out : State → State → List Event → List Event → ℕ → Type 0
  Out = beside.Out file program k once

  abbrev IsCalm : State → State → List Event → List Event → Type 0
  IsCalm = beside.IsCalm file program k once

  abbrev IsBusy : State → State → List Event → List Event → Type 0
  IsBusy = beside.IsBusy file program k once

  abbrev Holds : State → List Event → Type 0
  Holds = beside.Holds file program k once

  module _ (s s' : State) (g h : List Event) (b : IsBeside s s' g h) (t : ℕ) (up : IsUp file program s t)
      (up' : IsUp file program s' t) (lt : t < length program.threads) where
    -- ---- the thread that has the lock goes on

    module _ (m : IsBusy s s' g h) (here : IsUp file program s m.u) (here' : IsUp file program s' m.u) where
      abbrev guard : IsGuarded file program k m.n m.call
      guard = m.at.guarded.0

      -- the answers from the call's event on
      abbrev held : Answers → Answers
      held q = guard.before guard.last ++ Done ∷ q

      asks_here : (q : Answers) (a : Action Value) (sort : Sort) → one_call file program m.n m.call q ≡ Asks a sort →
          next file program m.u (answers_of s' m.u ++ q) ≡ Goes a sort
      asks_here q a sort one = asks_at file program k once m.u m.n m.call m.rest (answers_of s' m.u) q a sort m.at one

      -- the thread that has the lock asks what its call asks
      pub asks_now : (a : Action Value) (sort : Sort) → one_call file program m.n m.call (held m.q) ≡ Asks a sort →
          next file program m.u (answers_of s m.u) ≡ Goes a sort
      asks_now a sort one = ap (next file program m.u) m.mine ∙ asks_here (held m.q) a sort one

      longer : (q : Answers) (y : Answer Value) → held q ++ y ∷ [] ≡ held (q ++ y ∷ [])
      longer q y = append_assoc (guard.before guard.last) (Done ∷ q) (y ∷ [])

      -- an inner action
      module _ (a : IsAsking file program k m.n m.call guard.body held m.q) (store : Store)
          (x : Answer Value) (does : effect file.classes s.store m.u a.action ≡ Does store x) where
        inner_steps : step file program s m.u ≡ acted s m.u a.action x store
        inner_steps = steps_so file program s m.u a.action a.sort store x here (asks_now a.action a.sort a.asks) does

        no_event : (l : List Event) → l ++ events_in (event_of m.u a.action) ≡ l
        no_event l = ap (λ e. l ++ events_in e) (a.silent m.u) ∙ append-nil l

        inner_done : Holds (next_state s m.u store x) h
        inner_done =
            let goes = a.goes s.store store m.u x m.held does in
            record {
              s' = s';
              g = g;
              beside = record {
                reached = subst (Reached file program (next_state s m.u store x)) (no_event h)
                    (reach_acts file program s h m.u a.action x store b.reached inner_steps);
                serial_run = b.serial_run;
                count = count_stays s m.u store x ∙ b.count;
                count' = b.count';
                free = b.free;
                serial = b.serial;
                explains = b.explains;
              };
              mode = inr (record {
                u = m.u;
                within = m.within;
                outs = λ v not_u.
                    subst (λ l. Out (next_state s m.u store x) s' g l v) (append-nil h)
                    (stays_out file program k once s s' g h [] m.u v store x not_u (m.outs v not_u));
                n = m.n;
                call = m.call;
                rest = m.rest;
                at = m.at;
                q = m.q ++ x ∷ [];
                mine =
                    own s m.u store x (subst (λ c. m.u < c) (sym b.count) m.within)
                    ∙ ap (λ l. l ++ x ∷ []) m.mine
                    ∙ append_assoc (answers_of s' m.u) (held m.q) (x ∷ [])
                    ∙ ap (λ l. answers_of s' m.u ++ l) (longer m.q x);
                stands = goes.1;
                there = m.there;
                held = goes.0;
                up = up_stays file program k once s m.u m.u store x here
                    (goes_on file program k once s m.u a.action a.sort (asks_now a.action a.sort a.asks));
                z = next_state m.z m.u store x;
                ahead = subst (λ q. Ahead s' m.u q (g ++ called m.u m.n ∷ []) (next_state m.z m.u store x))
                    (longer m.q x)
                    (subst (λ told. Ahead s' m.u (held m.q ++ x ∷ []) told (next_state m.z m.u store x))
                    (no_event (g ++ called m.u m.n ∷ []))
                    (ahead_more file program k once s' m.z m.u (held m.q)
                    (g ++ called m.u m.n ∷ []) a.action a.sort store x here'
                    m.within m.ahead (asks_here (held m.q) a.action a.sort a.asks)
                    (ap (λ y. effect file.classes y m.u a.action) m.store ∙ does)));
                store = refl;
              });
            }

        -- an inner step of the thread that has the lock
        pub inner_after : Holds (step file program s m.u).after (h ++ events_of m.u (step file program s m.u).did)
        inner_after = subst (λ (p : Step). Holds p.after (h ++ events_of m.u p.did)) (sym inner_steps)
            (subst (Holds (next_state s m.u store x)) (sym (no_event h)) inner_done)

      -- ---- the body has completed: the lock is given back, and the serial run takes the whole call

      module _ (d : IsClosing file program k m.n m.call guard.body held m.q) where
        freed : IsTurn file program s.store m.u k.unlock k.Idle
        freed = k.frees s.store m.u m.held

        no_unlock : (l : List Event) → l ++ events_in (event_of m.u k.unlock) ≡ l
        no_unlock l = ap (λ e. l ++ events_in e) (k.unlock_silent m.u) ∙ append-nil l

        abbrev done : Answers
        done = held (m.q ++ Done ∷ [])

        abbrev s2 : State
        s2 = next_state s m.u freed.store Done

        unlock_steps : step file program s m.u ≡ acted s m.u k.unlock Done freed.store
        unlock_steps = steps_so file program s m.u k.unlock NoValue freed.store Done here
            (asks_now k.unlock NoValue d.asks) freed.does

        abbrev y1 : State
        y1 = next_state m.z m.u freed.store Done

        unlocked : Ahead s' m.u done (g ++ called m.u m.n ∷ []) y1
        unlocked = subst (λ q. Ahead s' m.u q (g ++ called m.u m.n ∷ []) y1) (longer m.q Done)
            (subst (λ told. Ahead s' m.u (held m.q ++ Done ∷ []) told y1) (no_unlock (g ++ called m.u m.n ∷ []))
            (ahead_more file program k once s' m.z m.u (held m.q)
            (g ++ called m.u m.n ∷ []) k.unlock NoValue freed.store
            Done here' m.within m.ahead (asks_here (held m.q) k.unlock NoValue d.asks)
            (ap (λ y. effect file.classes y m.u k.unlock) m.store ∙ freed.does)))

        mine_now : answers_of s2 m.u ≡ answers_of s' m.u ++ done
        mine_now =
            own s m.u freed.store Done (subst (λ c. m.u < c) (sym b.count) m.within)
            ∙ ap (λ l. l ++ Done ∷ []) m.mine
            ∙ append_assoc (answers_of s' m.u) (held m.q) (Done ∷ [])
            ∙ ap (λ l. answers_of s' m.u ++ l) (longer m.q Done)

        -- how the call ends, and what comes after it
        record IsEnding : Type 0 where
          action : Action Value
          event : Event
          after : Rest
          asks : next file program m.u (answers_of s' m.u ++ done) ≡ Goes action NoValue
          on : (more : Answers) →
              next file program m.u (answers_of s' m.u ++ held (m.q ++ Done ∷ Done ∷ more)) ≡
              continues file program k after more
          guarded : AreGuarded file program k after
          quiet : (z : Store) → effect file.classes z m.u action ≡ Does z Done
          is : event_of m.u action ≡ Some event
          end : IsEndOf (called m.u m.n) event

        abbrev last_call : Answers → Evaluated (Option Value)
        last_call rest = one_call file program m.n m.call (held (m.q ++ Done ∷ rest))

        abbrev next_calls : Answers → Next
        next_calls = all_calls file program (m.n + 1) m.rest

        ending : EndsSo last_call → IsEnding
        ending (inl (v, on)) = record {
          action = act.Return m.n v;
          event = record { thread = m.u; call = m.n; happening = Returned v };
          after = CallsFrom (m.n + 1) m.rest;
          asks = m.at.on done ∙ ap (λ x. after_call m.n x next_calls) (on []);
          on = λ more. m.at.on (held (m.q ++ Done ∷ Done ∷ more))
              ∙ ap (λ x. after_call m.n x next_calls) (on (Done ∷ more));
          guarded = m.at.guarded.1;
          quiet = λ z. refl;
          is = refl;
          end = record { ends = refl; thread = refl; call = refl };
        }
        ending (inr (k, on)) = record {
          action = act.Trap m.n k;
          event = record { thread = m.u; call = m.n; happening = HasTrapped k };
          after = Gone;
          asks = m.at.on done ∙ ap (λ x. after_call m.n x next_calls) (on []);
          on = λ more. m.at.on (held (m.q ++ Done ∷ Done ∷ more))
              ∙ ap (λ x. after_call m.n x next_calls) (on (Done ∷ more));
          guarded = tt;
          quiet = λ z. refl;
          is = refl;
          end = record { ends = refl; thread = refl; call = refl };
        }

        module _ (e : IsEnding) where
          abbrev y2 : State
          y2 = next_state y1 m.u freed.store Done

          abbrev g2 : List Event
          g2 = g ++ called m.u m.n ∷ e.event ∷ []

          told : (g ++ called m.u m.n ∷ []) ++ events_in (event_of m.u e.action) ≡ g2
          told =
              ap (λ x. (g ++ called m.u m.n ∷ []) ++ events_in x) e.is
              ∙ append_assoc g (called m.u m.n ∷ []) (e.event ∷ [])

          whole : Ahead s' m.u (done ++ Done ∷ []) g2 y2
          whole = subst (λ l. Ahead s' m.u (done ++ Done ∷ []) l y2) told
              (ahead_more file program k once s' y1 m.u done (g ++ called m.u m.n ∷ []) e.action NoValue freed.store
              Done here'
              m.within unlocked e.asks (e.quiet freed.store))

          -- the serial run after the call, at the boundary
          regroup : (more : Answers) → (done ++ Done ∷ []) ++ more ≡ held (m.q ++ Done ∷ Done ∷ more)
          regroup more =
              ap (λ l. l ++ more) (longer (m.q ++ Done ∷ []) Done)
              ∙ append_assoc (guard.before guard.last) (Done ∷ (m.q ++ Done ∷ []) ++ Done ∷ []) more
              ∙ ap held (ap (λ l. l ++ more) (append_assoc m.q (Done ∷ []) (Done ∷ []))
              ∙ append_assoc m.q (Done ∷ Done ∷ []) more)

          at_end : IsAt file program k m.u (answers_of y2 m.u) e.after
          at_end = record {
            on = λ more.
                ap (λ l. next file program m.u (l ++ more)) whole.mine
                ∙ ap (next file program m.u) (append_assoc (answers_of s' m.u) (done ++ Done ∷ []) more
                ∙ ap (λ l. answers_of s' m.u ++ l) (regroup more))
                ∙ e.on more;
            guarded = e.guarded;
          }

          leaving : IsLeaving file program k m.u (answers_of s2 m.u) (answers_of y2 m.u) g2
              (h ++ events_in (event_of m.u k.unlock))
          leaving = record {
            rest = e.after;
            at = at_end;
            last =
                whole.mine
                ∙ sym (append_assoc (answers_of s' m.u) done (Done ∷ []))
                ∙ ap (λ l. l ++ Done ∷ []) (sym mine_now);
            action = e.action;
            event = e.event;
            asks = ap (next file program m.u) mine_now ∙ e.asks;
            quiet = e.quiet;
            is = e.is;
            ends = e.end.ends;
            known = Contains-append_right g (called m.u m.n ∷ e.event ∷ []) e.event
                (Contains-push (called m.u m.n ∷ []) e.event);
          }

          outs_after : (v : ℕ) → (v ≡ m.u) ⊎ (v ≢ m.u) → Out s2 y2 g2 (h ++ events_in (event_of m.u k.unlock)) v
          outs_after v (inl same) = subst (Out s2 y2 g2 (h ++ events_in (event_of m.u k.unlock))) (sym same)
              (inr (inr leaving))
          outs_after v (inr not_u) =
              subst (λ a. IsOut file program k v a (answers_of y2 v) g2 (h ++ events_in (event_of m.u k.unlock)))
              (sym (other s m.u v freed.store Done not_u))
              (subst (λ c. IsOut file program k v (answers_of s v) c g2 (h ++ events_in (event_of m.u k.unlock)))
              (sym (whole.others v not_u))
              (out_later file program k v (answers_of s v) (answers_of s' v) g h (called m.u m.n ∷ e.event ∷ [])
              (events_in (event_of m.u k.unlock))
              (m.outs v not_u)))

          unlock_done : Holds s2 (h ++ events_in (event_of m.u k.unlock))
          unlock_done = record {
            s' = y2;
            g = g2;
            beside = record {
              reached = reach_acts file program s h m.u k.unlock Done freed.store b.reached unlock_steps;
              serial_run = whole.reached;
              count = count_stays s m.u freed.store Done ∙ b.count;
              count' = whole.count;
              free = freed.after;
              serial = serial_pair g (called m.u m.n) e.event b.serial refl e.end;
              explains = subst (Explains g2) (sym (no_unlock h))
                  (one_more g h b.explains (called m.u m.n) e.event m.there e.end);
            };
            mode = inl (record { store = refl; outs = λ v. outs_after v (cases_eq v m.u) });
          }

        -- the unlock: the serial run takes the whole call
        pub unlock_after : Holds (step file program s m.u).after (h ++ events_of m.u (step file program s m.u).did)
        unlock_after = subst (λ (p : Step). Holds p.after (h ++ events_of m.u p.did)) (sym unlock_steps)
            (unlock_done (ending d.ends))
