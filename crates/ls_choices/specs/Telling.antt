-- What is told of a thread's next step, by where a run stands.
use Rattle.std.specs.Prelude.{◌≡◌, ℕ, List, [], ◌∷◌, ◌++◌, slice_index_or}
use Rattle.ls_events.specs.declared.action.Action.{Action}
use Rattle.ls_events.specs.declared.action.Answer.{Answer}
use Rattle.ls_events.specs.declared.value.Value.{Value}
use Rattle.ls_labels.specs.Names.{Names}
use Rattle.ls_labels.specs.Threads.{thread_name, wait_text}
use Rattle.ls_labels.specs.Words.{performed_text}
use Rattle.ls_labels.specs.declared.label.Label.{Label}
use Rattle.ls_meaning.specs.Threads.{Goes}
use Rattle.ls_meaning.specs.declared.sort.Sort.{Sort}
use Rattle.ls_report.specs.Events.{Text}
use Rattle.ls_report.specs.Lines.{call_text}
use Rattle.ls_transitions.specs.Tables.{Table, goes_on}
use Rattle.ls_choices.specs.Standing.{Standing}

-- a thread with its last call, as `A.1 `
abbrev pub call_words : Names → List ℕ → ℕ → Text
call_words names calls thread =
    call_text (thread_name names.program thread) (slice_index_or calls thread 0) ++ 32 ∷ []

-- a step that acts; labels and calls are those after it
abbrev pub acted_text : Names → List Label → List ℕ → ℕ → Action Value → Answer Value → Text
acted_text names labels calls thread action answer =
    call_words names calls thread ++ performed_text names labels thread action answer

-- a step that waits, by the action that the work asks for
pub record IsWaitText (names : Names) (t : Table) (s : Standing) (thread work : ℕ) (text : Text) : Type 0 where
  pub action : Action Value
  pub sort : Sort
  pub asks : goes_on t work [] ≡ Goes action sort
  pub is : text ≡ call_words names s.calls thread ++ wait_text names s.labels s.configuration.store action
