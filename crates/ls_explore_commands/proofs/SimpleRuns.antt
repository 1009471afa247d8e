-- Runs that have what another has.
use Rattle.std.proofs.Common.{◌≡◌, ◌++◌, ◌∙◌, ℕ, List, sym, ap, subst}
use Rattle.std.proofs.lemmas.List.Elements.{filter_map-append}
use Rattle.ls_events.specs.declared.value.Value.{Value}
use Rattle.ls_checked.specs.CheckedTree.{File}
use Rattle.ls_checked.specs.CheckedProgram.{Program}
use Rattle.ls_meaning.specs.Steps.{Entry, run, trace}
use Rattle.ls_meaning.specs.Runs.{State, event_of, history_of, source_history, source_run, source_step, source_trace}
use Rattle.ls_meaning.specs.Runs.{start}
use Rattle.ls_meaning.specs.Runs.{step}
use Rattle.ls_meaning.specs.Still.{IsActing}
use Rattle.ls_search_laws.proofs.Stepping.{run-append, trace-append}
use Rattle.ls_spinning.specs.Turning.{TurnsForEver}

-- what a schedule has if another one has it, of equal files and programs
pub kept : (P : File → Program → List ℕ → Type 0) {file file' : File} {program program' : Program}
    {found steps schedule : List ℕ} →
    file ≡ file' → program ≡ program' → found ≡ steps → (P file program found → P file program schedule) →
    P file' program' steps →
    P file' program' schedule
kept P {file} {file'} {program} {program'} {found} {steps} {schedule} same_file same_program same h =
    subst (λ (s : List ℕ). P file' program' s → P file' program' schedule) same
    (subst (λ (p : Program). P file' p found → P file' p schedule) same_program
    (subst (λ (f : File). P f program found → P f program schedule) same_file h))

module _ (file : File) (program : Program) where
  history_on : (schedule more : List ℕ) → source_history file program (schedule ++ more) ≡
      source_history file program schedule
      ++ history_of (trace (source_step file program) (source_run file program schedule) more)
  history_on schedule more =
      ap history_of (trace-append (source_step file program) (start program) schedule more)
      ∙ filter_map-append (λ (e : Entry Value). event_of e.thread e.action) (source_trace file program schedule)
      (trace (source_step file program) (source_run file program schedule) more)

  module _ (one other : List ℕ) (state : source_run file program one ≡ source_run file program other)
      (history : source_history file program one ≡ source_history file program other) where
    same_state : (more : List ℕ) → source_run file program (one ++ more) ≡ source_run file program (other ++ more)
    same_state more =
        run-append (source_step file program) (start program) one more
        ∙ ap (λ (s : State). run (source_step file program) s more) state
        ∙ sym (run-append (source_step file program) (start program) other more)

    same_history : (more : List ℕ) →
        source_history file program (one ++ more) ≡ source_history file program (other ++ more)
    same_history more =
        history_on one more
        ∙ ap (λ h. h ++ history_of (trace (source_step file program) (source_run file program one) more)) history
        ∙ ap (λ (s : State). source_history file program other
        ++ history_of (trace (source_step file program) s more)) state
        ∙ sym (history_on other more)

    -- where threads turn for ever after the other, they do after the one
    pub turns_too : TurnsForEver file program other → TurnsForEver file program one
    turns_too turns = record {
      acts = λ more. (
        (turns.acts more).0,
        subst (λ (s : State). IsActing (step file program s (turns.acts more).0).did) (sym (same_state more))
            (turns.acts more).1,
      );
      silent = λ more. same_history more ∙ turns.silent more ∙ sym history;
    }
