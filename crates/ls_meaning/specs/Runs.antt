-- Runs of a program from the source, one step after another.
use Rattle.std.specs.Prelude.{ℕ, nat_eq, nat_lt, Bool, true, false, Option, Some, None, List, [], ◌∷◌, ◌++◌, map}
use Rattle.std.specs.Prelude.{length, slice_index_or, slice_set, if◌then◌else◌}
use Rattle.std.specs.List.{filter_map}
use Rattle.ls_events.specs.declared.value.Value.{Value}
use Rattle.ls_events.specs.declared.value.Value.TheVariants.{Reference}
use Rattle.ls_events.specs.declared.action.Action.{Action}
use Rattle.ls_events.specs.declared.action.Action.TheVariants.{Call, Return, Trap}
use Rattle.ls_events.specs.declared.event.Event.{Event}
use Rattle.ls_events.specs.declared.event.Happening.TheVariants.{Called, Returned, Trapped as HasTrapped}
use Rattle.ls_checked.specs.CheckedTree.{File}
use Rattle.ls_checked.specs.CheckedProgram.{Program}
use Rattle.ls_meaning.specs.declared.step.Asked.{Asked}
use Rattle.ls_meaning.specs.declared.step.Asked.TheVariants as asks
use Rattle.ls_meaning.specs.declared.step.Did.{Did}
use Rattle.ls_meaning.specs.declared.step.Did.TheVariants as did
use Rattle.ls_meaning.specs.Course.{Answers}
use Rattle.ls_meaning.specs.Store.{Store}
use Rattle.ls_meaning.specs.Effect.{Effect, Waits, Does, effect}
use Rattle.ls_meaning.specs.Threads.{Next, Goes, Ended, Trapped, next}
use Rattle.ls_meaning.specs.Steps.{Entry, Stepped, Same, Acted, run, trace}

-- a state: the store, and the answers that each thread has had
pub record State : Type 0 where
  pub store : Store
  pub answers : List Answers

abbrev pub answers_of : State → ℕ → Answers
answers_of s thread = slice_index_or s.answers thread []

-- at the start nothing is made, and each setup name is null
abbrev pub start : Program → State
start program = record {
  store = record { things = []; names = map (λ n. Reference 0) program.names };
  answers = map (λ t. []) program.threads;
}

-- the setup starts at once; the other threads start when the setup has ended without a trap
abbrev pub has_ended : Next → Bool
has_ended (Goes action sort) = false
has_ended Ended = true
has_ended Trapped = false

abbrev pub has_started : File → Program → State → ℕ → Bool
has_started file program s thread =
    if nat_eq thread 0 then true else has_ended (next file program 0 (answers_of s 0))

-- what a thread asks for next, as it is reported; a thread that doesn't exist has ended
abbrev pub asked_of : Next → Asked
asked_of (Goes action sort) = asks.Asks action
asked_of Ended = asks.Ended
asked_of Trapped = asks.Ended

abbrev pub asked : File → Program → State → ℕ → Asked
asked file program s thread =
    if nat_lt thread (length program.threads)
    then (if has_started file program s thread
    then asked_of (next file program thread (answers_of s thread))
    else asks.NotStarted)
    else asks.Ended

-- what a step does, and the state after it
pub record Step : Type 0 where
  pub did : Did
  pub after : State

-- an action is performed, and its thread keeps the answer
abbrev pub performed : State → ℕ → Action Value → Effect → Step
performed s thread action Waits = record { did = did.Waits; after = s }
performed s thread action (Does store answer) = record {
  did = did.Acted action answer;
  after = record { store = store; answers = slice_set s.answers thread (answers_of s thread ++ answer ∷ []) };
}

abbrev pub idle : State → Step
idle s = record { did = did.Idle; after = s }

abbrev pub step_of : File → State → ℕ → Next → Step
step_of file s thread (Goes action sort) = performed s thread action (effect file.classes s.store thread action)
step_of file s thread Ended = idle s
step_of file s thread Trapped = idle s

-- a step of a thread; it does nothing unless the thread has started and has not ended
abbrev pub step : File → Program → State → ℕ → Step
step file program s thread =
    if has_started file program s thread
    then step_of file s thread (next file program thread (answers_of s thread))
    else idle s

-- a step as a run takes it, with its line of the trace
abbrev pub stepped : ℕ → Did → State → Stepped State (Entry Value)
stepped thread (did.Acted action answer) s = Acted s (record { thread = thread; action = action; answer = answer })
stepped thread did.Waits s = Same
stepped thread did.Idle s = Same

abbrev pub source_step : File → Program → State → ℕ → Stepped State (Entry Value)
source_step file program s thread =
    stepped thread (step file program s thread).did (step file program s thread).after

-- the state after a schedule, and the actions that it performs
abbrev pub source_run : File → Program → List ℕ → State
source_run file program schedule = run (source_step file program) (start program) schedule

abbrev pub source_trace : File → Program → List ℕ → List (Entry Value)
source_trace file program schedule = trace (source_step file program) (start program) schedule

-- the call, return and trap events among the actions
abbrev pub event_of : ℕ → Action Value → Option Event
event_of thread (Call n) = Some (record { thread = thread; call = n; happening = Called })
event_of thread (Return n v) = Some (record { thread = thread; call = n; happening = Returned v })
event_of thread (Trap n kind) = Some (record { thread = thread; call = n; happening = HasTrapped kind })
event_of thread _ = None

abbrev pub history_of : List (Entry Value) → List Event
history_of entries = filter_map (λ e. event_of e.thread e.action) entries

abbrev pub source_history : File → Program → List ℕ → List Event
source_history file program schedule = history_of (source_trace file program schedule)
