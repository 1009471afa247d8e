-- A thread along the steps of its call: it stands in the call, and its next event is the call's end.
use Rattle.std.proofs.Common.{◌≡◌, ◌⊎◌, inl, inr, ℕ, ◌+◌, List, [], ◌∷◌, ◌++◌, Option, Some, None}
use Rattle.std.proofs.Common.{replicate, refl, sym, ap, ◌∙◌, subst, arith}
use Rattle.std.specs.Prelude.{slice_get, slice_index_or}
use Rattle.std.proofs.lemmas.List.{get_or-set_same}
use Rattle.ls_events.specs.declared.event.Event.{Event}
use Rattle.ls_checked.specs.CheckedTree.{File}
use Rattle.ls_checked.specs.CheckedProgram.{Program}
use Rattle.ls_meaning.specs.declared.step.Did.{Did}
use Rattle.ls_meaning.specs.Still.{IsActing}
use Rattle.ls_meaning.specs.Threads.{Next, calls_in, next}
use Rattle.ls_meaning.specs.Runs.{State, answers_of, event_of, source_run, step}
use Rattle.ls_serial.specs.Serial.{IsEndOf}
use Rattle.ls_search_laws.proofs.Telling.{long_of_all}
use Rattle.ls_serial_search.specs.Following.{called, events_in, events_of}
use Rattle.ls_serial_search.proofs.Between.{HasActed, has_acted}
use Rattle.ls_serial_search.proofs.Inside.{EndsCall, IsDue, IsEnding, IsIn, IsOwn, begins, ending_event, in_own}
use Rattle.ls_serial_search.proofs.Inside.{in_stays, loud}
use Rattle.ls_serial_search.proofs.Further.{IsQuiet}
use Rattle.ls_serial_search.proofs.Open.{acting}
use Rattle.ls_serial_search.proofs.Stepping.{acts_within, state_more, steps_more}

-- ---- the event of a step

only_event : (o : Option Event) (e : Event) → events_in o ≡ e ∷ [] → o ≡ Some e
only_event None e is = absurd (nothing is)
  where
    nothing : [] ≡ e ∷ [] → ⊥
    nothing h = cc
only_event (Some x) e is = cc

some_event : (o : Option Event) (e : Event) → o ≡ Some e → events_in o ≡ [] → ⊥
some_event o e is none = nothing (sym none ∙ ap events_in is)
  where
    nothing : [] ≡ e ∷ [] → ⊥
    nothing h = cc

same_event : (e f : Event) → Some e ≡ Some f → e ≡ f
same_event e f is = cc

module _ (file : File) (program : Program) where
  -- after the schedule the thread stands in the call of this number
  abbrev pub IsInside : List ℕ → ℕ → ℕ → Type 0
  IsInside schedule t call = IsIn file program call 1 (calls_in (slice_get program.threads t))
      (answers_of (source_run file program schedule) t)

  module _ (schedule : List ℕ) (t call : ℕ) where
    abbrev s : State
    s = source_run file program schedule

    abbrev d : Did
    d = (step file program s t).did

    abbrev n : Next
    n = next file program t (answers_of s t)

    -- a step that acts has one answer more
    more_answers : (acts : IsActing d) (a : HasActed file program s t) →
        answers_of (source_run file program (schedule ++ t ∷ [])) t ≡ answers_of s t ++ a.answer ∷ []
    more_answers acts a =
        ap (λ z. answers_of z t) (state_more file program schedule t)
        ∙ ap (λ l. slice_index_or l t []) a.answers
        ∙ get_or-set_same s.answers t (answers_of s t ++ a.answer ∷ []) []
        (omega (arith, acts_within file program s t acts, long_of_all file program schedule))

    -- with its call event it comes to stand in the call
    pub inside_first : events_of t d ≡ called t call ∷ [] → IsInside (schedule ++ t ∷ []) t call
    inside_first is =
        let acts = acting t d (called t call) is in
        let a = has_acted file program s t acts in
        let due : event_of t a.action ≡ Some (called t call) =
        only_event (event_of t a.action) (called t call) (sym a.events ∙ is) in
        subst (IsIn file program call 1 (calls_in (slice_get program.threads t))) (sym (more_answers acts a))
        (begins file program a.answer t (called t call) refl 1 (calls_in (slice_get program.threads t)) (answers_of s t)
        (subst (IsDue t (called t call)) (sym a.asks) due))

    -- after a step without an event it stands there still
    pub inside_next : IsInside schedule t call → IsActing d → events_of t d ≡ [] →
        IsInside (schedule ++ t ∷ []) t call
    inside_next is acts none = by_case (in_stays file program a.answer call 1 (calls_in (slice_get program.threads t))
        (answers_of s t) is)
      where
        a : HasActed file program s t
        a = has_acted file program s t acts

        by_case : IsIn file program call 1 (calls_in (slice_get program.threads t)) (answers_of s t ++ a.answer ∷ [])
            ⊎ EndsCall call n → IsInside (schedule ++ t ∷ []) t call
        by_case (inl still) = subst (IsIn file program call 1 (calls_in (slice_get program.threads t)))
            (sym (more_answers acts a)) still
        by_case (inr ends) =
            let e = ending_event t call a.action (subst (EndsCall call) a.asks ends) in
            absurd (some_event (event_of t a.action) e.0 e.1 (sym a.events ∙ none))

    -- its next event is the end of that call
    pub own_end : IsInside schedule t call → (e : Event) → events_of t d ≡ e ∷ [] → IsEndOf (called t call) e
    own_end is e one = by_case (subst (IsOwn file program call) a.asks
        (in_own file program call 1 (calls_in (slice_get program.threads t)) (answers_of s t) is))
      where
        a : HasActed file program s t
        a = has_acted file program s t (acting t d e one)

        due : event_of t a.action ≡ Some e
        due = only_event (event_of t a.action) e (sym a.events ∙ one)

        by_case : IsQuiet a.action ⊎ IsEnding call a.action → IsEndOf (called t call) e
        by_case (inl quiet) = absurd (quiet (loud t a.action e due))
        by_case (inr ends) =
            let f = ending_event t call a.action ends in
            subst (IsEndOf (called t call)) (same_event f.0 e (sym f.1 ∙ due))
            (record { ends = f.2; thread = f.3; call = f.4 })

-- ---- so many steps of it

module _ (file : File) (program : Program) (schedule : List ℕ) (t call : ℕ) (d : Did) where
  abbrev IsAt : ℕ → Type 0
  IsAt j = d ≡ (step file program (source_run file program (schedule ++ replicate j t)) t).did

  abbrev InsideAt : ℕ → Type 0
  InsideAt j = IsInside file program (schedule ++ replicate j t) t call

  pub first_inside : IsAt 0 → events_of t d ≡ called t call ∷ [] → InsideAt 1
  first_inside at is = subst (λ ts. IsInside file program ts t call) (steps_more schedule t 0)
      (inside_first file program (schedule ++ replicate 0 t) t call
      (subst (λ x. events_of t x ≡ called t call ∷ []) at is))

  pub next_inside : (j : ℕ) → IsAt j → InsideAt j → IsActing d → events_of t d ≡ [] → InsideAt (j + 1)
  next_inside j at is acts none = subst (λ ts. IsInside file program ts t call) (steps_more schedule t j)
      (inside_next file program (schedule ++ replicate j t) t call is (subst IsActing at acts)
      (subst (λ x. events_of t x ≡ []) at none))

  pub end_inside : (j : ℕ) → IsAt j → InsideAt j → (e : Event) → events_of t d ≡ e ∷ [] → IsEndOf (called t call) e
  end_inside j at is e one = own_end file program (schedule ++ replicate j t) t call is e
      (subst (λ x. events_of t x ≡ e ∷ []) at one)
