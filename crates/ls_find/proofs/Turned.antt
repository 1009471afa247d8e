-- Threads turn for ever after the steps of a schedule that act, if they do after the schedule.
use Rattle.std.proofs.Common.{◌≡◌, ◌++◌, ◌∙◌, ℕ, List, sym, ap, subst}
use Rattle.std.proofs.lemmas.List.Elements.{filter_map-append}
use Rattle.ls_events.specs.declared.event.Event.{Event}
use Rattle.ls_events.specs.declared.value.Value.{Value}
use Rattle.ls_checked.specs.CheckedTree.{File}
use Rattle.ls_checked.specs.CheckedProgram.{Program}
use Rattle.ls_meaning.specs.Steps.{Entry, run, trace}
use Rattle.ls_meaning.specs.Runs.{State, event_of, history_of, source_history, source_run, source_step, source_trace}
use Rattle.ls_meaning.specs.Runs.{start, step}
use Rattle.ls_meaning.specs.Still.{IsActing}
use Rattle.ls_search_laws.proofs.Stepping.{run-append, trace-append}
use Rattle.ls_spinning.specs.Turning.{TurnsForEver}
use Rattle.ls_endless_calls.specs.Laws.{NeverEndsSo}
use Rattle.ls_endless_calls.specs.Waits.{IsPending}
use Rattle.ls_specification.specs.Specification.{Given, given_file, given_program}
use Rattle.ls_find.specs.Verdicts.{HasTurns}

module _ (file : File) (program : Program) where
  history_on : (schedule more : List ℕ) → source_history file program (schedule ++ more) ≡
      source_history file program schedule
      ++ history_of (trace (source_step file program) (source_run file program schedule) more)
  history_on schedule more =
      ap history_of (trace-append (source_step file program) (start program) schedule more)
      ∙ filter_map-append (λ (e : Entry Value). event_of e.thread e.action) (source_trace file program schedule)
      (trace (source_step file program) (source_run file program schedule) more)

  module _ (found steps : List ℕ) (state : source_run file program steps ≡ source_run file program found)
      (history : source_history file program steps ≡ source_history file program found) where
    same_state : (more : List ℕ) → source_run file program (steps ++ more) ≡ source_run file program (found ++ more)
    same_state more =
        run-append (source_step file program) (start program) steps more
        ∙ ap (λ (s : State). run (source_step file program) s more) state
        ∙ sym (run-append (source_step file program) (start program) found more)

    same_history : (more : List ℕ) →
        source_history file program (steps ++ more) ≡ source_history file program (found ++ more)
    same_history more =
        history_on steps more
        ∙ ap (λ h. h ++ history_of (trace (source_step file program) (source_run file program steps) more)) history
        ∙ ap (λ (s : State). source_history file program found
        ++ history_of (trace (source_step file program) s more)) state
        ∙ sym (history_on found more)

    turns_too : TurnsForEver file program found → TurnsForEver file program steps
    turns_too turns = record {
      acts = λ more. (
        (turns.acts more).0,
        subst (λ (s : State). IsActing (step file program s (turns.acts more).0).did) (sym (same_state more))
            (turns.acts more).1,
      );
      silent = λ more. same_history more ∙ turns.silent more ∙ sym history;
    }

    pub still_turning : (given : Given) → HasTurns given file program found → HasTurns given file program steps
    still_turning given (c, t) = (
      c,
      record {
        turns = turns_too t.turns;
        pending = subst (λ (h : List Event). IsPending h c) (sym history) t.pending;
        alone = λ so. t.alone (subst (λ (h : List Event). NeverEndsSo (given_file given file)
            (given_program given program) h c)
            history so);
      },
    )
