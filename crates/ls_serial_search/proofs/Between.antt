-- Where calls run one at a time, each thread but that of the pending call is between its calls.
use Rattle.std.proofs.Common.{◌≡◌, ◌≢◌, ◌⊎◌, inl, inr, ℕ, zero, suc, ◌+◌, Bool, true, false, List, [], ◌∷◌, ◌++◌}
use Rattle.std.proofs.Common.{Option, Some, None, refl, sym, ap, ◌∙◌, subst, append-nil, map}
use Rattle.std.specs.Prelude.{if◌then◌else◌, slice_get, slice_index_or, slice_set}
use Rattle.ls_events.specs.declared.value.Value.{Value}
use Rattle.ls_events.specs.declared.action.Action.{Action}
use Rattle.ls_events.specs.declared.action.Action.TheVariants as act
use Rattle.ls_events.specs.declared.action.Answer.{Answer}
use Rattle.ls_events.specs.declared.event.Event.{Event}
use Rattle.ls_checked.specs.CheckedTree.{File}
use Rattle.ls_checked.specs.CheckedProgram.{Program, ProgramCall, ThreadProgram, Making, Calling}
use Rattle.ls_meaning.specs.declared.sort.Sort.{Sort}
use Rattle.ls_meaning.specs.Still.{IsActing}
use Rattle.ls_meaning.specs.Course.{Answers, Evaluated, Asks, Results, Throws}
use Rattle.ls_meaning.specs.Effect.{Effect, Waits, Does, effect}
use Rattle.ls_meaning.specs.Threads.{Next, Goes, Ended, Trapped, after_call, all_calls, calls_in, next, one_call}
use Rattle.ls_meaning.specs.Runs.{State, answers_of, event_of, has_started, idle, performed, source_history}
use Rattle.ls_meaning.specs.Runs.{source_run}
use Rattle.ls_meaning.specs.Runs.{start, step, step_of}
use Rattle.ls_serial.specs.Serial.{IsCall, IsEnd, IsSerial}
use Rattle.ls_serial_search.specs.Following.{CallsNext, IsBetween, called, events_in, events_of}
use Rattle.ls_serial_search.proofs.Stepping.{holds_of_all}
use Rattle.ls_serial_search.proofs.Answering.{between_acts, cases_nat, first_calls, none_between, others_answers}
use Rattle.ls_serial_search.proofs.Answering.{own_answers}
use Rattle.ls_serial_search.proofs.SoFar.{EndsWith, last_pair, same_end}
use Rattle.ls_serial_search.proofs.Further.{Further, IsLoud, body_of_call}

-- ---- actions that end a call

abbrev IsEnding : Action Value → Type 0
IsEnding (act.Return n v) = Unit {0}
IsEnding (act.Trap n kind) = Unit {0}
IsEnding _ = ⊥

ending_loud : (a : Action Value) → IsEnding a → IsLoud a
ending_loud (act.Return n v) ends = tt
ending_loud (act.Trap n kind) ends = tt
ending_loud _ ends = absurd ends

-- ---- after a return or a trap comes the next call, or nothing

module _ (file : File) (program : Program) (y : Answer Value) where
  -- an action that ends a call
  abbrev EndsCall : Next → Type 0
  EndsCall (Goes a sort) = IsEnding a
  EndsCall Ended = ⊥
  EndsCall Trapped = ⊥

  by_course : (n : ℕ) (cs : List ProgramCall) (x x' : Evaluated (Option Value)) →
      ((r : Answers) → EndsCall (all_calls file program (n + 1) cs r) →
      CallsNext (all_calls file program (n + 1) cs (r ++ y ∷ []))) →
      Further (y ∷ []) x x' →
      EndsCall (after_call n x (all_calls file program (n + 1) cs)) →
      CallsNext (after_call n x' (all_calls file program (n + 1) cs))
  by_course n cs (Asks a s) x' on f ends = absurd (f.is (ending_loud a ends))
  by_course n cs (Results v []) x' on f ends = rw f.is (first_calls file program cs (n + 1))
  by_course n cs (Results v (z ∷ rest)) x' on f ends = rw f.is (on rest ends)
  by_course n cs (Throws k []) x' on f ends = rw f.is tt
  by_course n cs (Throws k (z ∷ rest)) x' on f ends = absurd ends

  then_calls : (cs : List ProgramCall) (n : ℕ) (q : Answers) →
      EndsCall (all_calls file program n cs q) →
      CallsNext (all_calls file program n cs (q ++ y ∷ []))
  then_calls [] n q ends = tt
  then_calls (Making name c text values ∷ cs) n [] ends = absurd ends
  then_calls (Calling name m text result values ∷ cs) n [] ends = absurd ends
  then_calls (c ∷ cs) n (z ∷ q) ends =
      by_course n cs (one_call file program n c (z ∷ q)) (one_call file program n c (z ∷ q ++ y ∷ []))
      (then_calls cs (n + 1)) (body_of_call (y ∷ []) file program n c z q) ends

-- ---- the events of a step

no_event : (a : Action Value) (t : ℕ) (e : Event) → event_of t a ≡ Some e → IsEnd e → IsEnding a
no_event (act.Call n) t e is ends = absurd (not_end e is ends)
  where
    not_end : (e : Event) → Some (called t n) ≡ Some e → IsEnd e → ⊥
    not_end e is ends = let same : called t n ≡ e = cc in absurd (not_both (subst IsEnd (sym same) ends))
      where
        not_both : true ≡ false → ⊥
        not_both h = cc
no_event (act.Return n v) t e is ends = tt
no_event (act.Trap n k) t e is ends = tt
no_event _ t e is ends = absurd (nothing is)
  where
    nothing : {e : Event} → None ≡ Some e → ⊥
    nothing h = cc

event_thread : (a : Action Value) (t : ℕ) (e : Event) → event_of t a ≡ Some e → e.thread ≡ t
event_thread (act.Call n) t e is = cc
event_thread (act.Return n v) t e is = cc
event_thread (act.Trap n k) t e is = cc
event_thread _ t e is = absurd (cc)

-- what a step did that acts
pub record HasActed (file : File) (program : Program) (s : State) (t : ℕ) : Type 0 where
  pub action : Action Value
  pub sort : Sort
  pub answer : Answer Value
  pub asks : next file program t (answers_of s t) ≡ Goes action sort
  pub events : events_of t (step file program s t).did ≡ events_in (event_of t action)
  pub answers : (step file program s t).after.answers ≡ slice_set s.answers t (answers_of s t ++ answer ∷ [])

module _ (file : File) (program : Program) (s : State) (t : ℕ) where
  record ActedBy (n : Next) (b : Bool) : Type 0 where
    action : Action Value
    sort : Sort
    answer : Answer Value
    asks : n ≡ Goes action sort
    events : events_of t (if b then step_of file s t n else idle s).did ≡ events_in (event_of t action)
    answers : (if b then step_of file s t n else idle s).after.answers ≡
        slice_set s.answers t (answers_of s t ++ answer ∷ [])

  by_effect : (a : Action Value) (sort : Sort) (e : Effect) →
      effect file.classes s.store t a ≡ e →
      IsActing (performed s t a e).did →
      ActedBy (Goes a sort) true
  by_effect a sort Waits is acts = absurd acts
  by_effect a sort (Does store answer) is acts = record {
    action = a;
    sort = sort;
    answer = answer;
    asks = refl;
    events = ap (λ e. events_of t (performed s t a e).did) is;
    answers = ap (λ e. (performed s t a e).after.answers) is;
  }

  acted_by : (n : Next) (b : Bool) → IsActing (if b then step_of file s t n else idle s).did → ActedBy n b
  acted_by n false acts = absurd acts
  acted_by (Goes a sort) true acts = by_effect a sort (effect file.classes s.store t a) refl acts
  acted_by Ended true acts = absurd acts
  acted_by Trapped true acts = absurd acts

  pub has_acted : IsActing (step file program s t).did → HasActed file program s t
  has_acted acts = by_act (acted_by (next file program t (answers_of s t)) (has_started file program s t) acts)
    where
      by_act : ActedBy (next file program t (answers_of s t)) (has_started file program s t) →
          HasActed file program s t
      by_act r = record {
        action = r.action;
        sort = r.sort;
        answer = r.answer;
        asks = r.asks;
        events = r.events;
        answers = r.answers;
      }

-- ---- along a schedule

module _ (file : File) (program : Program) where
  pub record IsOrderly (s : State) (h : List Event) : Type 0 where
    pub closed : IsSerial h → (u : ℕ) → IsBetween file program s u
    pub pending : (g : List Event) (c : Event) → IsSerial g → IsCall c → g ++ c ∷ [] ≡ h → (u : ℕ) → u ≢ c.thread →
        IsBetween file program s u

  -- a step of another thread
  stays_between : (s : State) (t u : ℕ) → u ≢ t →
      IsBetween file program s u →
      IsBetween file program (step file program s t).after u
  stays_between s t u ne is = subst (λ q. CallsNext (next file program u q))
      (sym (others_answers file program s t u ne))
      is

  -- a thread that ends a call is between its calls then
  then_between : (s : State) (t : ℕ) (a : HasActed file program s t) →
      IsEnding a.action →
      IsBetween file program (step file program s t).after t
  then_between s t a ends = by_answers (own_answers s.answers t (answers_of s t ++ a.answer ∷ []) [])
    where
      kept : answers_of (step file program s t).after t ≡
          slice_index_or (slice_set s.answers t (answers_of s t ++ a.answer ∷ [])) t []
      kept = ap (λ l. slice_index_or l t []) a.answers

      by_answers : (slice_index_or (slice_set s.answers t (answers_of s t ++ a.answer ∷ [])) t [] ≡
          answers_of s t ++ a.answer ∷ [])
          ⊎ (slice_index_or (slice_set s.answers t (answers_of s t ++ a.answer ∷ [])) t [] ≡ []) →
          IsBetween file program (step file program s t).after t
      by_answers (inl one) = subst (λ q. CallsNext (next file program t q)) (sym (kept ∙ one))
          (then_calls file program a.answer (calls_in (slice_get program.threads t)) 1 (answers_of s t)
          (subst (EndsCall file program a.answer) (sym a.asks) ends))
      by_answers (inr none) = none_between file program (step file program s t).after t (kept ∙ none)

  module _ (s : State) (h : List Event) (t : ℕ) (o : IsOrderly s h) (acts : IsActing (step file program s t).did) where
    abbrev es : List Event
    es = events_of t (step file program s t).did

    -- a thread between its calls has an event
    has_event : es ≡ [] → IsBetween file program s t → ⊥
    has_event none is = let k = between_acts file program s t is acts in not_both (sym none ∙ k.1)
      where
        not_both : {e : Event} → [] ≡ e ∷ [] → ⊥
        not_both p = cc

    abbrev s' : State
    s' = (step file program s t).after

    closed_none : es ≡ [] → IsSerial (h ++ es) → (u : ℕ) → IsBetween file program s' u
    closed_none none serial u = absurd (has_event none
        (o.closed (subst IsSerial (ap (λ l. h ++ l) none ∙ append-nil h) serial) t))

    closed_one : (a : HasActed file program s t) (e : Event) →
        event_of t a.action ≡ Some e →
        es ≡ e ∷ [] →
        IsSerial (h ++ es) →
        (u : ℕ) →
        IsBetween file program s' u
    closed_one a e is one serial u = by_thread (cases_nat u t)
      where
        pair : EndsWith h e
        pair = last_pair h e (subst (λ l. IsSerial (h ++ l)) one serial)

        by_thread : (u ≡ t) ⊎ (u ≢ t) → IsBetween file program s' u
        by_thread (inl same) = subst (IsBetween file program s') (sym same)
            (then_between s t a (no_event a.action t e is pair.is_end.ends))
        by_thread (inr ne) = stays_between s t u ne (o.pending pair.front pair.call pair.serial pair.is_call pair.is u
            (λ same. ne (same ∙ sym pair.is_end.thread ∙ event_thread a.action t e is)))

    pending_none : (g : List Event) (c : Event) →
        es ≡ [] →
        IsSerial g →
        IsCall c →
        g ++ c ∷ [] ≡ h ++ es →
        (u : ℕ) →
        u ≢ c.thread →
        IsBetween file program s' u
    pending_none g c none serial call is u other = by_thread (cases_nat u t)
      where
        before : (v : ℕ) → v ≢ c.thread → IsBetween file program s v
        before = o.pending g c serial call (is ∙ ap (λ l. h ++ l) none ∙ append-nil h)

        by_thread : (u ≡ t) ⊎ (u ≢ t) → IsBetween file program s' u
        by_thread (inl same) = absurd (has_event none (before t (λ e. other (same ∙ e))))
        by_thread (inr ne) = stays_between s t u ne (before u other)

    pending_one : (a : HasActed file program s t) (e : Event) (g : List Event) (c : Event) →
        event_of t a.action ≡ Some e →
        es ≡ e ∷ [] →
        IsSerial g →
        g ++ c ∷ [] ≡ h ++ es →
        (u : ℕ) →
        u ≢ c.thread →
        IsBetween file program s' u
    pending_one a e g c some one serial is u other =
        let same = same_end g h c e (is ∙ ap (λ l. h ++ l) one) in
        stays_between s t u (λ at. other (at ∙ sym (event_thread a.action t e some)
        ∙ ap (λ (x : Event). x.thread) (sym same.1)))
        (o.closed (subst IsSerial same.0 serial) u)

    by_event : (a : HasActed file program s t) (x : Option Event) → event_of t a.action ≡ x → IsOrderly s' (h ++ es)
    by_event a None is = let none : es ≡ [] = a.events ∙ ap events_in is in record {
      closed = closed_none none;
      pending = λ g c serial call at u other. pending_none g c none serial call at u other;
    }
    by_event a (Some e) is = let one : es ≡ e ∷ [] = a.events ∙ ap events_in is in record {
      closed = closed_one a e is one;
      pending = λ g c serial call at u other. pending_one a e g c is one serial at u other;
    }

    pub orderly_kept : IsOrderly s' (h ++ es)
    orderly_kept = let a = has_acted file program s t acts in by_event a (event_of t a.action) refl

  abbrev pub none_of : ThreadProgram → Answers
  none_of t = []

  -- at the start no thread has had an answer
  pub none_at_start : (xs : List ThreadProgram) (u : ℕ) → slice_index_or (map none_of xs) u [] ≡ []
  none_at_start [] u = refl
  none_at_start (x ∷ xs) zero = refl
  none_at_start (x ∷ xs) (suc u) = none_at_start xs u

  pub start_between : (u : ℕ) → IsBetween file program (start program) u
  start_between u = none_between file program (start program) u (none_at_start program.threads u)

  orderly : (schedule : List ℕ) →
      IsOrderly (source_run file program schedule) (source_history file program schedule)
  orderly schedule = holds_of_all file program IsOrderly (λ s h t o acts. orderly_kept s h t o acts)
      (record { closed = λ serial u. start_between u; pending = λ g c serial call is u other. start_between u })
      schedule

  -- after a serial history each thread is between its calls
  pub all_between : (schedule : List ℕ) →
      IsSerial (source_history file program schedule) →
      (u : ℕ) →
      IsBetween file program (source_run file program schedule) u
  all_between schedule = (orderly schedule).closed
