-- Searched schedules have each serial history.
use Rattle.std.proofs.Common.{◌≡◌, ◌≢◌, ◌⊎◌, inl, inr, ℕ, zero, suc, ◌+◌, ◌<◌, ◌≤◌, true, false, List, [], ◌∷◌}
use Rattle.std.proofs.Common.{◌++◌, Contains, replicate, refl, sym, ap, ◌∙◌, subst, arith}
use Rattle.std.proofs.Common.{append-nil}
use Rattle.std.proofs.lemmas.Bool.{cases_lt}
use Rattle.ls_events.specs.declared.event.Event.{Event}
use Rattle.ls_checked.specs.CheckedTree.{File}
use Rattle.ls_checked.specs.CheckedProgram.{Program}
use Rattle.ls_meaning.specs.declared.step.Did.{Did}
use Rattle.ls_meaning.specs.declared.step.Did.TheVariants as did
use Rattle.ls_meaning.specs.Still.{IsActing, IsStill}
use Rattle.ls_meaning.specs.Threads.{next}
use Rattle.ls_meaning.specs.Runs.{State, answers_of, source_history, source_run}
use Rattle.ls_meaning.specs.Runs.{start, step}
use Rattle.ls_serial.specs.Serial.{IsCall, IsEndOf, IsSerial}
use Rattle.ls_serial_search.specs.Following.{CallsNext, EndsKnown, IsBegun, IsBetween, IsFollowed, NeverEnds, called}
use Rattle.ls_serial_search.specs.Following.{events_of}
use Rattle.ls_serial_search.specs.Searched.{IsSearched}
use Rattle.ls_serial_search.specs.Laws.{HasHistoryOf}
use Rattle.ls_serial_search.proofs.Stepping.{acts_within, history_more, holds_of_all, state_more, steps_more}
use Rattle.ls_serial_search.proofs.Answering.{between_acts, cases_nat, others_answers}
use Rattle.ls_serial_search.proofs.Between.{all_between}
use Rattle.ls_serial_search.proofs.SoFar.{IsSoFar, pending_not_serial, same_end, serial_so_far, so_far_before}
use Rattle.ls_serial_search.proofs.SoFar.{so_far_call, then_ends}

module _ (file : File) (program : Program) where
  suc_is : (j : ℕ) → suc j ≡ j + 1
  suc_is j = omega arith

  -- they leave the answers of other threads
  along_answers : (schedule : List ℕ) (t u j : ℕ) → u ≢ t →
      answers_of (source_run file program (schedule ++ replicate j t)) u ≡
      answers_of (source_run file program schedule) u
  along_answers schedule t u zero ne = ap (λ ts. answers_of (source_run file program ts) u) (append-nil schedule)
  along_answers schedule t u (suc j) ne =
      ap (λ k. answers_of (source_run file program (schedule ++ replicate k t)) u) (suc_is j)
      ∙ ap (λ ts. answers_of (source_run file program ts) u) (sym (steps_more schedule t j))
      ∙ ap (λ s. answers_of s u) (state_more file program (schedule ++ replicate j t) t)
      ∙ others_answers file program (source_run file program (schedule ++ replicate j t)) t u ne
      ∙ along_answers schedule t u j ne

  module _ (known : List (List ℕ)) (searched : IsSearched file program known) where
    -- the state and the history are those of one of the schedules
    record IsAt (s : State) (h : List Event) : Type 0 where
      schedule : List ℕ
      there : Contains known schedule
      state : s ≡ source_run file program schedule
      history : h ≡ source_history file program schedule

    -- after so many of its steps a thread goes on in a call that never ends, or in one whose end is known
    abbrev Going : List ℕ → ℕ → ℕ → Type 0
    Going schedule t j = ((call : ℕ) × NeverEnds file program schedule t call)
        ⊎ ((f : EndsKnown file program known schedule t) × (j ≤ f.steps))

    -- they are those within a call after one of the schedules
    record IsWithin (s : State) (h : List Event) : Type 0 where
      schedule : List ℕ
      there : Contains known schedule
      thread : ℕ
      call : ℕ
      before : ℕ
      state : s ≡ source_run file program (schedule ++ replicate (before + 1) thread)
      history : h ≡ source_history file program (schedule ++ replicate (before + 1) thread)
      begun : h ≡ source_history file program schedule ++ called thread call ∷ []
      going : Going schedule thread (before + 1)

    abbrev IsKnown : State → List Event → Type 0
    IsKnown s h = IsAt s h ⊎ IsWithin s h

    -- the thread goes on that was followed
    advance : (schedule : List ℕ) (t j : ℕ) (s : State) (h : List Event) →
        Contains known schedule →
        Going schedule t j →
        s ≡ source_run file program (schedule ++ replicate j t) →
        h ≡ source_history file program (schedule ++ replicate j t) →
        IsKnown (step file program s t).after (h ++ events_of t (step file program s t).did)
    advance schedule t j s h there going es eh = by_going going
      where
        one : List ℕ
        one = schedule ++ replicate j t

        state : (step file program s t).after ≡ source_run file program (schedule ++ replicate (j + 1) t)
        state = ap (λ z. (step file program z t).after) es ∙ sym (state_more file program (schedule ++ replicate j t) t)
            ∙ ap (source_run file program) (steps_more schedule t j)

        history : h ++ events_of t (step file program s t).did ≡
            source_history file program (schedule ++ replicate (j + 1) t)
        history = ap (λ z. h ++ events_of t (step file program z t).did) es
            ∙ ap (λ z. z ++ events_of t (step file program
            (source_run file program (schedule ++ replicate j t)) t).did) eh
            ∙ sym (history_more file program (schedule ++ replicate j t) t)
            ∙ ap (source_history file program) (steps_more schedule t j)

        within : (call i : ℕ) → j < i → IsBegun file program schedule t call i → Going schedule t (j + 1) →
            IsKnown (step file program s t).after (h ++ events_of t (step file program s t).did)
        within call i less begun further = inr (record {
          schedule = schedule;
          there = there;
          thread = t;
          call = call;
          before = j;
          state = state;
          history = history;
          begun = history ∙ begun.is j less;
          going = further;
        })

        by_place : (f : EndsKnown file program known schedule t) → j ≤ f.steps → (j < f.steps) ⊎ (f.steps ≤ j) →
            IsKnown (step file program s t).after (h ++ events_of t (step file program s t).did)
        by_place f le (inl less) = within f.call f.steps less f.begun (inr (f, omega (arith, less)))
        by_place f le (inr past) =
            let same : j ≡ f.steps = omega (arith, le, past) in
            inl (record {
              schedule = schedule ++ replicate (j + 1) t;
              there = subst (λ i. Contains known (schedule ++ replicate (i + 1) t)) (sym same) f.there;
              state = state;
              history = history;
            })

        by_going : Going schedule t j →
            IsKnown (step file program s t).after (h ++ events_of t (step file program s t).did)
        by_going (inl never) = within never.0 (j + 1) (omega arith) (never.1 (j + 1)) (inl never)
        by_going (inr ends) = by_place ends.0 ends.1 (cases_lt j ends.0.steps)

    -- another thread can't go on
    other_calls : (s : State) (h : List Event) (t : ℕ) →
        (w : IsWithin s h) →
        t ≢ w.thread →
        IsActing (step file program s t).did →
        IsSoFar (h ++ events_of t (step file program s t).did) →
        ⊥
    other_calls s h t w ne acts so = not_end (then_ends (source_history file program w.schedule)
        (called w.thread w.call) (called t k.0) (searched.serial w.schedule w.there)
        (subst IsSoFar (ap (λ es. h ++ es) k.1 ∙ ap (λ z. z ++ called t k.0 ∷ []) w.begun) so))
      where
        between : IsBetween file program s t
        between = subst (λ q. CallsNext (next file program t q))
            (sym (ap (λ z. answers_of z t) w.state ∙ along_answers w.schedule w.thread t (w.before + 1) ne))
            (all_between file program w.schedule (searched.serial w.schedule w.there) t)

        k : (n : ℕ) × (events_of t (step file program s t).did ≡ called t n ∷ [])
        k = between_acts file program s t between acts

        not_end : {c : Event} {n : ℕ} → IsEndOf c (called t n) → ⊥
        not_end e = let h : true ≡ false = e.ends in cc

    abbrev Holds : State → List Event → Type 0
    Holds s h = IsSoFar h → IsKnown s h

    kept : (s : State) (h : List Event) (t : ℕ) →
        Holds s h →
        IsActing (step file program s t).did →
        Holds (step file program s t).after (h ++ events_of t (step file program s t).did)
    kept s h t holds acts so = by_known (holds (so_far_before h _ so))
      where
        within : (w : IsWithin s h) → (t ≡ w.thread) ⊎ (t ≢ w.thread) →
            IsKnown (step file program s t).after (h ++ events_of t (step file program s t).did)
        within w (inr ne) = absurd (other_calls s h t w ne acts so)
        within w (inl same) =
            subst (λ i. IsKnown (step file program s i).after (h ++ events_of i (step file program s i).did)) (sym same)
            (advance w.schedule w.thread (w.before + 1) s h w.there w.going w.state w.history)

        still_acts : (d : Did) → IsStill d → IsActing d → ⊥
        still_acts (did.Acted a x) still acting = still
        still_acts did.Waits still acting = acting
        still_acts did.Idle still acting = acting

        begins : (at : IsAt s h) → IsFollowed file program known at.schedule t → Going at.schedule t 0
        begins at (inl still) = absurd (still_acts _ still
            (subst (λ z. IsActing (step file program z t).did) at.state acts))
        begins at (inr (inl never)) = inl never
        begins at (inr (inr f)) = inr (f, omega arith)

        by_known : IsKnown s h →
            IsKnown (step file program s t).after (h ++ events_of t (step file program s t).did)
        by_known (inl at) =
            advance at.schedule t 0 s h at.there
            (begins at ((searched.followed at.schedule at.there) t (acts_within file program s t acts)))
            (at.state ∙ ap (source_run file program) (sym (append-nil at.schedule)))
            (at.history ∙ ap (source_history file program) (sym (append-nil at.schedule)))
        by_known (inr w) = within w (cases_nat t w.thread)

    at_start : IsKnown (start program) []
    at_start = inl (record { schedule = []; there = searched.start; state = refl; history = refl })

    pub known_history : (schedule : List ℕ) →
        IsSerial (source_history file program schedule) →
        HasHistoryOf file program known schedule
    known_history schedule serial =
        by_known (holds_of_all file program Holds kept (λ so. at_start) schedule (serial_so_far _ serial))
      where
        by_known : IsKnown (source_run file program schedule) (source_history file program schedule) →
            HasHistoryOf file program known schedule
        by_known (inl at) = record { one = at.schedule; there = at.there; same = at.history }
        by_known (inr w) = absurd (pending_not_serial (source_history file program w.schedule)
            (called w.thread w.call) (searched.serial w.schedule w.there)
            (subst IsSerial w.begun serial))

    -- a call that has begun after a serial history is one that was followed
    pub record IsBegunIn (schedule : List ℕ) (before : List Event) (c : Event) : Type 0 where
      pub one : List ℕ
      pub there : Contains known one
      pub same : before ≡ source_history file program one
      pub steps : ℕ
      pub state : source_run file program schedule ≡ source_run file program (one ++ replicate steps c.thread)
      pub history : source_history file program schedule ≡ source_history file program (one ++ replicate steps c.thread)

    pub begun_in : (schedule : List ℕ) (before : List Event) (c : Event) → IsSerial before → IsCall c →
        source_history file program schedule ≡ before ++ c ∷ [] →
        IsBegunIn schedule before c
    begun_in schedule before c serial call is =
        by_known (holds_of_all file program Holds kept (λ so. at_start) schedule
        (subst IsSoFar (sym is) (so_far_call before c serial call)))
      where
        by_known : IsKnown (source_run file program schedule) (source_history file program schedule) →
            IsBegunIn schedule before c
        by_known (inl at) = absurd (pending_not_serial before c serial
            (subst IsSerial (sym at.history ∙ is) (searched.serial at.schedule at.there)))
        by_known (inr w) =
            let ends = same_end before (source_history file program w.schedule) c (called w.thread w.call)
            (sym is ∙ w.begun) in
            let thread : w.thread ≡ c.thread = ap (λ (e : Event). e.thread) (sym ends.1) in
            record {
              one = w.schedule;
              there = w.there;
              same = ends.0;
              steps = w.before + 1;
              state = w.state ∙ ap (λ t. source_run file program (w.schedule ++ replicate (w.before + 1) t)) thread;
              history = w.history ∙
                  ap (λ t. source_history file program (w.schedule ++ replicate (w.before + 1) t)) thread;
            }
