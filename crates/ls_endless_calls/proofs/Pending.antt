-- Along a schedule the thread of each pending call stands in that call. So it waits where no thread acts.
use Rattle.std.proofs.Common.{◌≡◌, ◌≢◌, ◌⊎◌, inl, inr, ℕ, Bool, true, false, List, [], ◌∷◌, ◌++◌, Option}
use Rattle.std.proofs.Common.{Some, None, Contains, length, refl, sym, ap, ◌∙◌, subst, arith}
use Rattle.std.specs.Prelude.{if◌then◌else◌, nat_eq, slice_get, slice_index_or, slice_set}
use Rattle.std.proofs.lemmas.List.{get_or-set_same, length-map, length-set}
use Rattle.std.proofs.lemmas.List.Elements.{Contains-append_cases, Contains-append_left, Contains-push}
use Rattle.std.proofs.lemmas.List.Elements.{Contains-push_cases}
use Rattle.ls_events.specs.declared.value.Value.{Value}
use Rattle.ls_events.specs.declared.action.Action.{Action}
use Rattle.ls_events.specs.declared.action.Action.TheVariants as act
use Rattle.ls_events.specs.declared.action.Answer.{Answer}
use Rattle.ls_events.specs.declared.event.Event.{Event}
use Rattle.ls_checked.specs.CheckedTree.{File}
use Rattle.ls_checked.specs.CheckedProgram.{Program, ProgramCall}
use Rattle.ls_meaning.specs.declared.sort.Sort.{Sort}
use Rattle.ls_meaning.specs.declared.step.Did.TheVariants as did
use Rattle.ls_meaning.specs.Still.{IsActing, IsStill}
use Rattle.ls_meaning.specs.Effect.{Effect, Waits, Does, effect}
use Rattle.ls_meaning.specs.Threads.{Next, Goes, Ended, Trapped, calls_in, next}
use Rattle.ls_meaning.specs.Runs.{State, Step, answers_of, event_of, has_ended, has_started, idle, performed}
use Rattle.ls_meaning.specs.Runs.{source_history, source_run, start, step, step_of}
use Rattle.ls_serial.specs.Serial.{IsCall, IsEndOf}
use Rattle.ls_serial_search.specs.Following.{events_in, events_of}
use Rattle.ls_serial_search.proofs.Answering.{cases_nat, others_answers}
use Rattle.ls_serial_search.proofs.Inside.{EndsCall, IsDue, IsGoing, IsIn, begins, ending_event, in_goes, in_stays}
use Rattle.ls_serial_search.proofs.Stepping.{acts_within, holds_of_all}
use Rattle.ls_endless_calls.specs.Laws.{NoWaitNoneForEver, PendingWaits}

-- ---- a step that acts

-- its thread has started and asks for this action, and its answer is kept
record HasActed (s : State) (t : ℕ) (n : Next) (b : Bool) (p : Step) : Type 0 where
  action : Action Value
  sort : Sort
  answer : Answer Value
  started : b ≡ true
  asks : n ≡ Goes action sort
  events : events_of t p.did ≡ events_in (event_of t action)
  answers : p.after.answers ≡ slice_set s.answers t (answers_of s t ++ answer ∷ [])

module _ (file : File) (s : State) (t : ℕ) where
  by_effect : (a : Action Value) (sort : Sort) (e : Effect) → IsActing (performed s t a e).did →
      HasActed s t (Goes a sort) true (performed s t a e)
  by_effect a sort Waits acts = absurd acts
  by_effect a sort (Does store answer) acts = record {
    action = a;
    sort = sort;
    answer = answer;
    started = refl;
    asks = refl;
    events = refl;
    answers = refl;
  }

  by_next : (n : Next) (b : Bool) → IsActing (if b then step_of file s t n else idle s).did →
      HasActed s t n b (if b then step_of file s t n else idle s)
  by_next n false acts = absurd acts
  by_next (Goes a sort) true acts = by_effect a sort (effect file.classes s.store t a) acts
  by_next Ended true acts = absurd acts
  by_next Trapped true acts = absurd acts

  -- a thread that has started, goes on and doesn't act waits
  effect_waits : (a : Action Value) (e : Effect) → IsStill (performed s t a e).did →
      (performed s t a e).did ≡ did.Waits
  effect_waits a Waits still = refl
  effect_waits a (Does store answer) still = absurd still

  next_waits : (n : Next) (b : Bool) → b ≡ true →
      IsGoing n →
      IsStill (if b then step_of file s t n else idle s).did →
      (if b then step_of file s t n else idle s).did ≡ did.Waits
  next_waits n false started goes still = absurd (not_both started)
    where
      not_both : false ≡ true → ⊥
      not_both h = cc
  next_waits (Goes a sort) true started goes still = effect_waits a (effect file.classes s.store t a) still
  next_waits Ended true started goes still = absurd goes
  next_waits Trapped true started goes still = absurd goes

event_thread : (t : ℕ) (a : Action Value) (e : Event) → event_of t a ≡ Some e → e.thread ≡ t
event_thread t (act.Call n) e is = cc
event_thread t (act.Return n v) e is = cc
event_thread t (act.Trap n k) e is = cc
event_thread t _ e is = absurd cc

event_is : (o : Option Event) (e : Event) → Contains (events_in o) e → o ≡ Some e
event_is None e there = absurd (omega (arith, there.1))
event_is (Some x) e there = by_place (Contains-push_cases [] x e there)
  where
    by_place : Contains [] e ⊎ (x ≡ e) → Some x ≡ Some e
    by_place (inl nowhere) = absurd (omega (arith, nowhere.1))
    by_place (inr same) = ap Some same

module _ (file : File) (program : Program) where
  abbrev calls_of : ℕ → List ProgramCall
  calls_of t = calls_in (slice_get program.threads t)

  -- the call's thread has started, and stands in the call
  pub record IsInside (s : State) (c : Event) : Type 0 where
    pub started : has_started file program s c.thread ≡ true
    pub inside : IsIn file program c.call 1 (calls_of c.thread) (answers_of s c.thread)

  abbrev pub HasEnd : List Event → Event → Type 0
  HasEnd h c = (e : Event) × Contains h e × IsEndOf c e

  -- each call has ended, or its thread stands in it
  pub record AreInside (s : State) (h : List Event) : Type 0 where
    pub count : length s.answers ≡ length program.threads
    pub inside : (c : Event) → Contains h c → IsCall c → HasEnd h c ⊎ IsInside s c

  module _ (s : State) (h : List Event) (t : ℕ) (r : AreInside s h) (acts : IsActing (step file program s t).did) where
    abbrev n : Next
    n = next file program t (answers_of s t)

    abbrev s' : State
    s' = (step file program s t).after

    abbrev es : List Event
    es = events_of t (step file program s t).did

    a : HasActed s t n (has_started file program s t) (step file program s t)
    a = by_next file s t n (has_started file program s t) acts

    more : answers_of s' t ≡ answers_of s t ++ a.answer ∷ []
    more =
        ap (λ l. slice_index_or l t []) a.answers
        ∙ get_or-set_same s.answers t (answers_of s t ++ a.answer ∷ []) []
        (let within = acts_within file program s t acts in omega (arith, within, r.count))

    count_stays : length s'.answers ≡ length program.threads
    count_stays = ap length a.answers ∙ length-set s.answers t (answers_of s t ++ a.answer ∷ []) ∙ r.count

    -- ---- what has started stays so

    by_setup : (b : Bool) (m m' : Next) (x : Action Value) (sort : Sort) → m ≡ Goes x sort →
        (if b then true else has_ended m) ≡ true →
        (if b then true else has_ended m') ≡ true
    by_setup true m m' x sort goes started = refl
    by_setup false m m' x sort goes started = absurd (not_both (sym (ap has_ended goes) ∙ started))
      where
        not_both : false ≡ true → ⊥
        not_both h = cc

    started_by : (u : ℕ) → (0 ≡ t) ⊎ (0 ≢ t) → has_started file program s u ≡ true →
        has_started file program s' u ≡ true
    started_by u (inl zero) started =
        by_setup (nat_eq u 0) (next file program 0 (answers_of s 0)) (next file program 0 (answers_of s' 0)) a.action
        a.sort (ap (λ w. next file program w (answers_of s w)) zero ∙ a.asks) started
    started_by u (inr other) started =
        ap (λ q. if nat_eq u 0 then true else has_ended (next file program 0 q))
        (others_answers file program s t 0 other)
        ∙ started

    started_stays : (u : ℕ) → has_started file program s u ≡ true → has_started file program s' u ≡ true
    started_stays u started = started_by u (cases_nat 0 t) started

    -- ---- calls that have begun

    event_there : (e : Event) → event_of t a.action ≡ Some e → Contains (h ++ es) e
    event_there e is = subst (λ l. Contains (h ++ l) e) (sym (a.events ∙ ap events_in is)) (Contains-push h e)

    ended : (c : Event) → c.thread ≡ t → EndsCall c.call n → HasEnd (h ++ es) c
    ended c same ends =
        let e = ending_event t c.call a.action (subst (EndsCall c.call) a.asks ends) in
        (e.0, event_there e.0 e.1, record { ends = e.2; thread = e.3 ∙ sym same; call = e.4 })

    own : (c : Event) → c.thread ≡ t → IsInside s c → HasEnd (h ++ es) c ⊎ IsInside s' c
    own c same i = by_more
        (in_stays file program a.answer c.call 1 (calls_of t) (answers_of s t)
        (subst (λ u. IsIn file program c.call 1 (calls_of u) (answers_of s u)) same i.inside))
      where
        by_more : IsIn file program c.call 1 (calls_of t) (answers_of s t ++ a.answer ∷ []) ⊎ EndsCall c.call n →
            HasEnd (h ++ es) c ⊎ IsInside s' c
        by_more (inl still) = inr (record {
          started = started_stays c.thread i.started;
          inside = subst (λ u. IsIn file program c.call 1 (calls_of u) (answers_of s' u)) (sym same)
              (subst (IsIn file program c.call 1 (calls_of t)) (sym more) still);
        })
        by_more (inr ends) = inl (ended c same ends)

    stays : (c : Event) → (c.thread ≡ t) ⊎ (c.thread ≢ t) → IsInside s c → HasEnd (h ++ es) c ⊎ IsInside s' c
    stays c (inl same) i = own c same i
    stays c (inr other) i = inr (record {
      started = started_stays c.thread i.started;
      inside = subst (IsIn file program c.call 1 (calls_of c.thread))
          (sym (others_answers file program s t c.thread other)) i.inside;
    })

    old : (c : Event) → HasEnd h c ⊎ IsInside s c → HasEnd (h ++ es) c ⊎ IsInside s' c
    old c (inl e) = inl (e.0, Contains-append_left h es e.0 e.1, e.2)
    old c (inr i) = stays c (cases_nat c.thread t) i

    new : (c : Event) → IsCall c → event_of t a.action ≡ Some c → IsInside s' c
    new c calls is =
        let same = event_thread t a.action c is in
        let due : IsDue t c n = subst (IsDue t c) (sym a.asks) is in
        record {
          started = started_stays c.thread (subst (λ u. has_started file program s u ≡ true) (sym same) a.started);
          inside = subst (λ u. IsIn file program c.call 1 (calls_of u) (answers_of s' u)) (sym same)
              (subst (IsIn file program c.call 1 (calls_of t)) (sym more)
              (begins file program a.answer t c calls 1 (calls_of t) (answers_of s t) due));
        }

    each : (c : Event) → Contains (h ++ es) c → IsCall c → HasEnd (h ++ es) c ⊎ IsInside s' c
    each c there calls = by_place (Contains-append_cases h es c there)
      where
        by_place : Contains h c ⊎ Contains es c → HasEnd (h ++ es) c ⊎ IsInside s' c
        by_place (inl before) = old c (r.inside c before calls)
        by_place (inr now) =
            inr (new c calls (event_is (event_of t a.action) c (subst (λ l. Contains l c) a.events now)))

    kept : AreInside s' (h ++ es)
    kept = record { count = count_stays; inside = each }

  at_start : AreInside (start program) []
  at_start = record {
    count = length-map program.threads (λ t. []);
    inside = λ c there. absurd (omega (arith, there.1));
  }

  pub all_inside : (schedule : List ℕ) → AreInside (source_run file program schedule)
      (source_history file program schedule)
  all_inside schedule = holds_of_all file program AreInside (λ s h t r acts. kept s h t r acts) at_start schedule

pub pending_waits : PendingWaits
pending_waits file program schedule c over p =
    by_case ((all_inside file program schedule).inside c p.there p.is_call)
  where
    s : State
    s = source_run file program schedule

    by_case : HasEnd file program (source_history file program schedule) c ⊎ IsInside file program s c →
        (step file program s c.thread).did ≡ did.Waits
    by_case (inl e) = absurd (p.pending e.0 e.1 e.2)
    by_case (inr i) = next_waits file s c.thread (next file program c.thread (answers_of s c.thread))
        (has_started file program s c.thread) i.started
        (in_goes file program c.call 1 (calls_in (slice_get program.threads c.thread)) (answers_of s c.thread) i.inside)
        (over c.thread)

pub none_for_ever : NoWaitNoneForEver
none_for_ever sfile sprogram file program none schedule c over p =
    absurd (none schedule over c.thread (pending_waits file program schedule c over p))
