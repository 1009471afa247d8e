-- What the threads ask for next.
use Rattle.std.specs.Prelude.{ℕ, ◌==◌, ◌&&◌, Bool, true, false, List, [], ◌∷◌, ◌++◌, count_by, if◌then◌else◌}
use Rattle.ls_events.specs.declared.value.Value.{Value}
use Rattle.ls_events.specs.declared.action.Action.{Action}
use Rattle.ls_events.specs.declared.action.Action.TheVariants.{Call}
use Rattle.ls_events.specs.declared.event.Event.{Event}
use Rattle.ls_events.specs.declared.event.Happening.{Happening}
use Rattle.ls_events.specs.declared.event.Happening.TheVariants.{Called}
use Rattle.ls_checked.specs.CheckedProgram.{ThreadProgram}
use Rattle.ls_meaning.specs.declared.step.Asked.{Asked}
use Rattle.ls_meaning.specs.declared.step.Asked.TheVariants.{Asks, Ended, NotStarted}
use Rattle.ls_meaning.specs.Effect.{Effect, Waits, Does, effect}
use Rattle.ls_meaning.specs.Runs.{asked}
use Rattle.ls_report.specs.Events.{Text}
use Rattle.ls_report.specs.Lines.{call_text}
use Rattle.ls_labels.specs.Names.{Names}
use Rattle.ls_labels.specs.Threads.{end_text, start_text, trapped_in, wait_text}
use Rattle.ls_labels.specs.Words.{action_text}
use Rattle.ls_state.specs.Scene.{Scene}

abbrev pub is_call : Happening → Bool
is_call Called = true
is_call _ = false

-- how many calls a thread has begun
abbrev pub calls_begun : ℕ → List Event → ℕ
calls_begun thread history = count_by (λ e. e.thread == thread && is_call e.happening) history

-- the number of the call that an action belongs to
abbrev pub call_of : ℕ → List Event → Action Value → ℕ
call_of thread history (Call n) = n
call_of thread history action = calls_begun thread history

abbrev pub has_to_wait : Effect → Bool
has_to_wait Waits = true
has_to_wait (Does after answer) = false

-- an action, as `reads Node#3.next`, or what it waits for, as `waits for ReentrantLock#2, which A owns`
abbrev pub asking_text : Names → Scene → ℕ → Action Value → Bool → Text
asking_text names scene thread action waits =
    if waits then wait_text names scene.labels scene.state.store action else
    action_text names scene.labels thread action

-- as `A.1 reads Node#3.next`
abbrev pub asks_text : Names → Scene → ℕ → Text → Action Value → Text
asks_text names scene thread name action =
    call_text name (call_of thread scene.history action)
    ++ (32 ∷ asking_text names scene thread action (has_to_wait
    (effect names.file.classes scene.state.store thread action)))

abbrev pub asked_text : Names → Scene → ℕ → Text → Asked → Text
asked_text names scene thread name (Asks action) = asks_text names scene thread name action
asked_text names scene thread name Ended = name ++ end_text (trapped_in names scene.state thread)
asked_text names scene thread name NotStarted = name ++ start_text (trapped_in names scene.state 0)

-- what a thread asks for next
abbrev pub thread_line : Names → Scene → ℕ → ThreadProgram → Text
thread_line names scene thread t =
    asked_text names scene thread t.name (asked names.file names.program scene.state thread) ++ 10 ∷ []
