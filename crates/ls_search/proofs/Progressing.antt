-- The run of the setup, step by step.
use Rattle.std.proofs.Common.{◌≡◌, ◌⊎◌, inl, inr, ℕ, ◌+◌, ◌<◌, ◌≤◌, true, false, List, [], ◌∷◌, ◌++◌, refl}
use Rattle.std.proofs.Common.{sym, ap, ◌∙◌, subst, arith, replicate}
use Rattle.std.proofs.lemmas.Bool.{cases_lt}
use Rattle.std.proofs.lemmas.List.{append-nil}
use Rattle.ls_checked.specs.CheckedTree.{File}
use Rattle.ls_checked.specs.CheckedProgram.{Program}
use Rattle.ls_events.specs.declared.event.Event.{Event}
use Rattle.ls_meaning.specs.declared.step.Did.{Did}
use Rattle.ls_meaning.specs.declared.step.Did.TheVariants as did
use Rattle.ls_meaning.specs.Runs.{State, source_history, source_run, step}
use Rattle.ls_meaning.specs.Still.{IsActing, IsStill}
use Rattle.ls_search_laws.specs.Stepping.{IsOneMore, SetsUp, events_of}
use Rattle.ls_search_laws.proofs.Stepping.{one_more, still_stays, traced_events}
use Rattle.ls_source.specs.Progress.{gone_on}
use Rattle.ls_meaning.specs.Still.{has_acted}
use Rattle.ls_search.specs.Runs.{progress_at}
use Rattle.ls_search_laws.proofs.Acting.{replicate_last}

acting_of : (d : Did) → has_acted d ≡ true → IsActing d
acting_of (did.Acted action answer) e = tt
acting_of did.Waits e = absurd cc
acting_of did.Idle e = absurd cc

still_of : (d : Did) → has_acted d ≡ false → IsStill d
still_of (did.Acted action answer) e = absurd cc
still_of did.Waits e = tt
still_of did.Idle e = tt

no_events : (t : ℕ) (d : Did) → IsStill d → events_of t d ≡ []
no_events t (did.Acted action answer) still = absurd still
no_events t did.Waits still = refl
no_events t did.Idle still = refl

module _ (file : File) (program : Program) where
  -- the run after one step more
  pub gone : (schedule : List ℕ) (t : ℕ) →
      gone_on (progress_at file program schedule) t ≡ progress_at file program (schedule ++ t ∷ [])
  gone schedule t =
      let s : State = source_run file program schedule in
      let more : IsOneMore file program schedule t = one_more file program schedule t in
      let events = traced_events t (step file program s t).did (step file program s t).after [] ∙
      append-nil (events_of t (step file program s t).did) in
      ap (λ (h : List Event). record {
        file = file;
        program = program;
        state = (step file program s t).after;
        history = source_history file program schedule ++ h;
      }) events
      ∙ ap (λ (h : List Event). record {
        file = file;
        program = program;
        state = (step file program s t).after;
        history = h;
      }) (sym more.history)
      ∙ ap (λ (z : State). record {
        file = file;
        program = program;
        state = z;
        history = source_history file program (schedule ++ t ∷ []);
      }) (sym more.state)

  -- after a step that didn't act
  stayed : (schedule : List ℕ) (t : ℕ) →
      IsStill (step file program (source_run file program schedule) t).did →
      gone_on (progress_at file program schedule) t ≡ progress_at file program schedule
  stayed schedule t still =
      let s : State = source_run file program schedule in
      let events = traced_events t (step file program s t).did (step file program s t).after [] ∙
      append-nil (events_of t (step file program s t).did) ∙ no_events t (step file program s t).did still in
      ap (λ (h : List Event). record {
        file = file;
        program = program;
        state = (step file program s t).after;
        history = source_history file program schedule ++ h;
      }) events
      ∙ ap (λ (h : List Event). record {
        file = file;
        program = program;
        state = (step file program s t).after;
        history = h;
      }) (append-nil (source_history file program schedule))
      ∙ ap (λ (z : State). record {
        file = file;
        program = program;
        state = z;
        history = source_history file program schedule;
      }) (still_stays file program s t still)

  -- after so many steps of the setup
  pub gone_up : (k : ℕ) →
      gone_on (progress_at file program (replicate k 0)) 0 ≡ progress_at file program (replicate (k + 1) 0)
  gone_up k = gone (replicate k 0) 0 ∙ ap (progress_at file program) (sym (replicate_last k 0))

  pub stayed_up : (k : ℕ) (d : Did) → d ≡ (step file program (source_run file program (replicate k 0)) 0).did →
      has_acted d ≡ false →
      gone_on (progress_at file program (replicate k 0)) 0 ≡ progress_at file program (replicate k 0)
  stayed_up k d is isnt = stayed (replicate k 0) 0 (subst IsStill is (still_of d isnt))

  pub up_none : SetsUp file program 0
  up_none j less = absurd (omega arith)

  pub up_more : (k : ℕ) (d : Did) → SetsUp file program k →
      d ≡ (step file program (source_run file program (replicate k 0)) 0).did →
      has_acted d ≡ true →
      SetsUp file program (k + 1)
  up_more k d up is acted j less = by_place (cases_lt j k)
    where
      by_place : (j < k) ⊎ (k ≤ j) → IsActing (step file program (source_run file program (replicate j 0)) 0).did
      by_place (inl before) = up j before
      by_place (inr past) =
          let same : k ≡ j = omega arith in
          subst (λ (i : ℕ). IsActing (step file program (source_run file program (replicate i 0)) 0).did) same
          (subst IsActing is (acting_of d acted))
