-- A program as an automaton: its serial runs are the serial histories of its schedules.
use Rattle.std.proofs.Common.{◌≡◌, ◌≢◌, ◌↔◌, ◌⊎◌, inl, inr, ℕ, ◌+◌, true, false, List, [], ◌∷◌, ◌++◌, Option, Some}
use Rattle.std.proofs.Common.{None}
use Rattle.std.proofs.Common.{refl, sym, ap, ◌∙◌, subst, append-nil, append_assoc, replicate}
use Rattle.std.proofs.lemmas.List.{replicate_more}
use Rattle.std.proofs.lemmas.List.Elements.{filter_map-append}
use Rattle.ls_events.specs.declared.value.Value.{Value}
use Rattle.ls_events.specs.declared.event.Event.{Event}
use Rattle.ls_checked.specs.CheckedTree.{File}
use Rattle.ls_checked.specs.CheckedProgram.{Program}
use Rattle.ls_meaning.specs.Steps.{Entry, Stepped, run, trace}
use Rattle.ls_meaning.specs.Still.{IsActing}
use Rattle.ls_meaning.specs.Runs.{State, event_of, history_of, source_history, source_run, source_step, start, step}
use Rattle.ls_search_laws.proofs.Stepping.{run-append, step_after, trace-append, traced_events}
use Rattle.ls_search_laws.proofs.Covering.{holds_of_all}
use Rattle.ls_serial.specs.Serial.{Explains, IsCall, IsEndOf, IsSerial}
use Rattle.ls_serial_search.specs.Following.{called, events_in, events_of}
use Rattle.ls_serial_search.proofs.Answering.{between_acts, cases_nat}
use Rattle.ls_automaton.specs.Automaton.{Serially}
use Rattle.ls_automaton.specs.Programs.{HeldIfLinearizable, Leads}
use Rattle.ls_serial_search.proofs.Between.{HasActed, IsOrderly, has_acted, orderly_kept, start_between}
use Rattle.ls_serial_search.proofs.SoFar.{IsSoFar, pending_not_serial, serial_so_far, so_far_before, then_ends}
use Rattle.ls_automaton.proofs.Holding.{serially_more}
use Rattle.ls_automaton.proofs.Runs.{serially_serial}
use Rattle.ls_automaton.proofs.Exact.{held_exactly}
use Rattle.ls_automaton.proofs.Once.{once}
use Rattle.ls_linearizable.specs.Linearizable.{IsLinearizable}
use Rattle.ls_linearizable.specs.Once.{AreOnce}
use Rattle.ls_automaton.specs.Automaton.{IsExplainedFrom}
use Rattle.ls_automaton.specs.Laws.{RunsAreOnce}

module _ (file : File) (program : Program) where
  abbrev pub does : State → ℕ → Stepped State (Entry Value)
  does = source_step file program

  abbrev pub told : State → List ℕ → List Event
  told s ts = history_of (trace does s ts)

  abbrev pub leads : State → Event → Event → State → Type 0
  leads = Leads file program

  pub told_append : (s : State) (ts us : List ℕ) → told s (ts ++ us) ≡ told s ts ++ told (run does s ts) us
  told_append s ts us = ap history_of (trace-append does s ts us)
      ∙ filter_map-append (λ (e : Entry Value). event_of e.thread e.action)
      (trace does s ts) (trace does (run does s ts) us)

  -- ---- a serial run is a schedule's

  pub record IsPlayed (s : State) (g : List Event) (last : State) : Type 0 where
    pub path : List ℕ
    pub history : told s path ≡ g
    pub state : run does s path ≡ last

  pub played : (g : List Event) (s last : State) → Serially leads s g last → IsPlayed s g last
  played [] s last is = record { path = []; history = refl; state = is }
  played (c ∷ []) s last k = absurd k
  played (c ∷ e ∷ g) s last k =
      let r = played g k.2 last k.4 in
      record {
        path = replicate k.3.steps c.thread ++ r.path;
        history = told_append s (replicate k.3.steps c.thread) r.path
            ∙ ap (λ l. l ++ told (run does s (replicate k.3.steps c.thread)) r.path) k.3.history
            ∙ ap (λ l. c ∷ e ∷ l) (ap (λ z. told z r.path) (sym k.3.state) ∙ r.history);
        state = run-append does s (replicate k.3.steps c.thread) r.path
            ∙ ap (λ z. run does z r.path) (sym k.3.state) ∙ r.state;
      }

  -- ---- a schedule whose history is serial is such a run

  one_told : (s : State) (t : ℕ) → told s (t ∷ []) ≡ events_of t (step file program s t).did
  one_told s t = traced_events t (step file program s t).did (step file program s t).after []
      ∙ append-nil (events_of t (step file program s t).did)

  -- what one step more of a thread tells, and where it leads
  pub more_told : (s : State) (j t : ℕ) → told s (replicate (j + 1) t) ≡
      told s (replicate j t) ++ events_of t (step file program (run does s (replicate j t)) t).did
  more_told s j t = ap (told s) (sym (replicate_more j t)) ∙ told_append s (replicate j t) (t ∷ [])
      ∙ ap (λ l. told s (replicate j t) ++ l) (one_told (run does s (replicate j t)) t)

  pub more_run : (s : State) (j t : ℕ) → run does s (replicate (j + 1) t) ≡
      (step file program (run does s (replicate j t)) t).after
  more_run s j t = ap (run does s) (sym (replicate_more j t)) ∙ run-append does s (replicate j t) (t ∷ [])
      ∙ step_after file program (run does s (replicate j t)) t

  -- a call has begun after a serial run
  pub record IsWithin (s : State) (h : List Event) : Type 0 where
    pub before : State
    pub calls : List Event
    pub call : Event
    pub steps : ℕ
    pub serially : Serially leads (start program) calls before
    pub is_call : IsCall call
    pub history : h ≡ calls ++ call ∷ []
    pub own : told before (replicate steps call.thread) ≡ call ∷ []
    pub state : s ≡ run does before (replicate steps call.thread)

  abbrev pub IsKnown : State → List Event → Type 0
  IsKnown s h = Serially leads (start program) h s ⊎ IsWithin s h

  abbrev pub Keeps : State → List Event → Type 0
  Keeps s h = IsOrderly file program s h × (IsSoFar h → IsKnown s h)

  module _ (s : State) (h : List Event) (t : ℕ) (k : Keeps s h) (acts : IsActing (step file program s t).did) where
    abbrev es : List Event
    es = events_of t (step file program s t).did

    abbrev s' : State
    s' = (step file program s t).after

    begins : Serially leads (start program) h s → IsWithin s' (h ++ es)
    begins at =
        let e = between_acts file program s t (k.0.closed (serially_serial leads (start program) s h at) t) acts in
        record {
          before = s;
          calls = h;
          call = called t e.0;
          steps = 1;
          serially = at;
          is_call = refl;
          history = ap (λ l. h ++ l) e.1;
          own = one_told s t ∙ e.1;
          state = sym (step_after file program s t);
        }

    module _ (w : IsWithin s h) (so : IsSoFar (h ++ es)) where
      serial : IsSerial w.calls
      serial = serially_serial leads (start program) w.before w.calls w.serially

      ends_call : (e : Event) → es ≡ e ∷ [] → IsEndOf w.call e
      ends_call e one = then_ends w.calls w.call e serial
          (subst IsSoFar (ap (λ l. h ++ l) one ∙ ap (λ l. l ++ e ∷ []) w.history) so)

      other : t ≢ w.call.thread → ⊥
      other ne =
          let e = between_acts file program s t
          (k.0.pending w.calls w.call serial w.is_call (sym w.history) t ne) acts in
          not_end (ends_call (called t e.0) e.1)
        where
          not_end : {c : Event} {n : ℕ} → IsEndOf c (called t n) → ⊥
          not_end x = let h : true ≡ false = x.ends in cc

      module _ (same : t ≡ w.call.thread) where
        own_events : events_of w.call.thread
            (step file program (run does w.before (replicate w.steps w.call.thread)) w.call.thread).did ≡ es
        own_events = ap (λ z. events_of w.call.thread (step file program z w.call.thread).did) (sym w.state)
            ∙ ap (λ u. events_of u (step file program s u).did) (sym same)

        own_told : told w.before (replicate (w.steps + 1) w.call.thread) ≡ w.call ∷ es
        own_told = more_told w.before w.steps w.call.thread
            ∙ ap (λ l. l ++ events_of
            w.call.thread (step file program (run does w.before (replicate w.steps w.call.thread))
            w.call.thread).did) w.own
            ∙ ap (λ l. w.call ∷ l) own_events

        own_state : s' ≡ run does w.before (replicate (w.steps + 1) w.call.thread)
        own_state = ap (λ u. (step file program s u).after) same
            ∙ ap (λ z. (step file program z w.call.thread).after) w.state
            ∙ sym (more_run w.before w.steps w.call.thread)

        goes_on : es ≡ [] → IsWithin s' (h ++ es)
        goes_on none = record {
          before = w.before;
          calls = w.calls;
          call = w.call;
          steps = w.steps + 1;
          serially = w.serially;
          is_call = w.is_call;
          history = ap (λ l. h ++ l) none ∙ append-nil h ∙ w.history;
          own = own_told ∙ ap (λ l. w.call ∷ l) none;
          state = own_state;
        }

        ends : (e : Event) → es ≡ e ∷ [] → Serially leads (start program) (h ++ es) s'
        ends e one = subst (λ l. Serially leads (start program) l s')
            (sym (ap (λ l. h ++ l) one ∙ ap (λ l. l ++ e ∷ []) w.history
            ∙ append_assoc w.calls (w.call ∷ []) (e ∷ [])))
            (serially_more leads (start program) w.before s' w.calls w.call e w.serially w.is_call
            (ends_call e one) (record {
              steps = w.steps + 1;
              history = own_told ∙ ap (λ l. w.call ∷ l) one;
              state = own_state;
            }))

        by_event : (a : HasActed file program s t) (x : Option Event) → event_of t a.action ≡ x → IsKnown s' (h ++ es)
        by_event a None is = inr (goes_on (a.events ∙ ap events_in is))
        by_event a (Some e) is = inl (ends e (a.events ∙ ap events_in is))

        follows : IsKnown s' (h ++ es)
        follows = let a = has_acted file program s t acts in by_event a (event_of t a.action) refl

      by_thread : (t ≡ w.call.thread) ⊎ (t ≢ w.call.thread) → IsKnown s' (h ++ es)
      by_thread (inl same) = follows same
      by_thread (inr ne) = absurd (other ne)

    by_known : IsSoFar (h ++ es) → IsKnown s h → IsKnown s' (h ++ es)
    by_known so (inl at) = inr (begins at)
    by_known so (inr w) = by_thread w so (cases_nat t w.call.thread)

    kept : Keeps s' (h ++ es)
    kept = (orderly_kept file program s h t k.0 acts, λ so. by_known so (k.1 (so_far_before h es so)))

  pub known : (schedule : List ℕ) → Keeps (source_run file program schedule) (source_history file program schedule)
  known schedule = holds_of_all file program Keeps (λ s h t k acts. kept s h t k acts) (
    record {
      closed = λ serial u. start_between file program u;
      pending = λ g c serial call is u
          other. start_between file program u;
    },
    λ so. inl refl,
  ) schedule

  pub serially : (schedule : List ℕ) → IsSerial (source_history file program schedule) →
      Serially leads (start program) (source_history file program schedule) (source_run file program schedule)
  serially schedule serial =
      by_known' ((known schedule).1 (serial_so_far (source_history file program schedule) serial))
    where
      by_known' : IsKnown (source_run file program schedule) (source_history file program schedule) →
          Serially leads (start program) (source_history file program schedule) (source_run file program schedule)
      by_known' (inl at) = at
      by_known' (inr w) = absurd (pending_not_serial w.calls w.call
          (serially_serial leads (start program) w.before w.calls w.serially) (subst IsSerial w.history serial))

-- a history is linearizable exactly if a serial run of the automaton explains it
pub programs_are : (file : File) (program : Program) (h : List Event) →
    IsLinearizable file program h ↔ IsExplainedFrom (Leads file program) (start program) h
programs_are file program h = (
  λ l. record {
    run = source_history file program l.schedule;
    last = source_run file program l.schedule;
    serially = serially file program l.schedule l.serial;
    explains = l.explains;
  },
  λ e. let p = played file program e.run (start program) e.last e.serially in
      record {
        schedule = p.path;
        serial = subst IsSerial
            (sym p.history) (serially_serial (Leads file program) (start program) e.last e.run e.serially);
        explains = subst (λ g. Explains g h) (sym p.history) e.explains;
      },
)

pub runs_once : (file : File) (program : Program) → RunsAreOnce (Leads file program) (start program)
runs_once file program g last run =
    let p = played file program g (start program) last run in subst AreOnce p.history (once file program p.path)

pub held_if_linearizable : HeldIfLinearizable
held_if_linearizable file program schedule =
    let x = held_exactly (Leads file program) (start program) (runs_once file program)
    (source_history file program schedule) (once file program schedule) in
    let y = programs_are file program (source_history file program schedule) in
    (λ p. y.1 (x.0 p), λ l. x.1 (y.0 l))
