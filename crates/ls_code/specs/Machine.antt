-- The whole machine: its steps, runs, traces and histories.
use Rattle.std.specs.Prelude.{ℕ, List, [], ◌∷◌, ◌++◌, map, replicate, Option, Some, None, Bool, true, false, ◌&&◌, ◌||◌}
use Rattle.std.specs.Prelude.{◌==◌, if◌then◌else◌, slice_get, slice_set}
use Rattle.ls_code.specs.Code.{Code, Start}
use Rattle.ls_code.specs.Frame.{Frame}
use Rattle.ls_code.specs.Thread.{Thread}
use Rattle.ls_code.specs.Cells.{Cells}
use Rattle.ls_code.specs.Events.{events_of}
use Rattle.ls_code.specs.Steps.{StepResult, performed, thread_move}
use Rattle.ls_code.specs.declared.step.Mode.{Mode}
use Rattle.ls_code.specs.declared.step.Mode.TheVariants as mode
use Rattle.ls_code.specs.declared.step.Did.{Did}
use Rattle.ls_code.specs.declared.step.Did.TheVariants as did
use Rattle.ls_code.specs.declared.step.ThreadState.{ThreadState}
use Rattle.ls_code.specs.declared.step.ThreadState.TheVariants as state
use Rattle.ls_events.specs.declared.action.Action.{Action}
use Rattle.ls_events.specs.declared.action.Answer.{Answer}
use Rattle.ls_events.specs.declared.event.Event.{Event}

pub record Machine : Type 0 where
  pub code : Code
  pub threads : List Thread
  pub cells : Cells
  pub stopped : Bool
  pub history : List Event

-- a thread at its start
abbrev pub empty_frame : ℕ → ℕ → Frame
empty_frame place need = record { counter = place; locals = []; operands = []; need = need }

abbrev pub started : Start → Thread
started s = record {
  top = empty_frame s.place s.need;
  below = [];
  mode = mode.Running;
  calls = s.calls;
  ended = 0;
  pending = false;
}

-- the setup names have the first cells
abbrev pub first_cells : ℕ → ℕ → List ℕ → Cells
first_cells names limit sizes = record { words = replicate names 0; limit = limit; names = names; sizes = sizes }

-- the machine of code, with this many cells, at its start
abbrev pub loaded : Code → ℕ → Machine
loaded p cells = record {
  code = p;
  threads = map started p.starts;
  cells = first_cells p.names cells p.sizes;
  stopped = false;
  history = [];
}

abbrev pub is_running : Mode → Bool
is_running mode.Running = true
is_running mode.Ended = false
is_running mode.Trapped = false

abbrev pub has_ended : Mode → Bool
has_ended mode.Running = false
has_ended mode.Ended = true
has_ended mode.Trapped = false

-- the setup, thread 0, has ended without a trap
abbrev pub setup_ended : Option Thread → Bool
setup_ended None = false
setup_ended (Some setup) = has_ended setup.mode

-- a thread is due if it goes on; for each thread but the setup, the setup must have ended too
abbrev pub is_due : List Thread → ℕ → Thread → Bool
is_due threads n t = is_running t.mode && (n == 0 || setup_ended (slice_get threads 0))

abbrev pub stops : Did → Bool
stops did.Stopped = true
stops did.Silent = false
stops (did.Acted action answer) = false
stops did.Waits = false
stops did.Idle = false

-- the machine after an outcome of its thread n
abbrev pub after : Machine → ℕ → StepResult → Machine
after m n o = record m {
  threads = slice_set m.threads n o.thread;
  cells = o.cells;
  stopped = stops o.did;
  history = m.history ++ events_of m.code n o.did;
}

pub record Stepped : Type 0 where
  pub machine : Machine
  pub did : Did

abbrev pub stepped_by : Machine → Did → Stepped
stepped_by m d = record { machine = m; did = d }

-- the step of a thread, if it is due; if the machine hasn't stopped; if the thread exists
abbrev pub due_step : Machine → ℕ → Thread → Bool → Stepped
due_step m n t false = stepped_by m did.Idle
due_step m n t true = let o = performed m.cells n t (thread_move m.code t) in stepped_by (after m n o) o.did

abbrev pub open_step : Machine → ℕ → Thread → Bool → Stepped
open_step m n t true = stepped_by m did.Stopped
open_step m n t false = due_step m n t (is_due m.threads n t)

abbrev pub step_of : Machine → ℕ → Option Thread → Stepped
step_of m n None = stepped_by m did.Idle
step_of m n (Some t) = open_step m n t m.stopped

-- one step of thread n
abbrev pub machine_step : Machine → ℕ → Stepped
machine_step m n = step_of m n (slice_get m.threads n)

-- the machine after a schedule
abbrev pub machine_run : Machine → List ℕ → Machine
machine_run m [] = m
machine_run m (n ∷ ns) = machine_run (machine_step m n).machine ns

-- the events of a schedule
abbrev pub machine_history : Code → ℕ → List ℕ → List Event
machine_history p cells ns = (machine_run (loaded p cells) ns).history

-- the actions that a schedule performs, in order
pub record Entry : Type 0 where
  pub thread : ℕ
  pub action : Action ℕ
  pub answer : Answer ℕ

abbrev pub traced : ℕ → Did → List Entry → List Entry
traced n (did.Acted action answer) rest = record { thread = n; action = action; answer = answer } ∷ rest
traced n did.Silent rest = rest
traced n did.Waits rest = rest
traced n did.Idle rest = rest
traced n did.Stopped rest = rest

abbrev pub machine_trace : Machine → List ℕ → List Entry
machine_trace m [] = []
machine_trace m (n ∷ ns) = traced n (machine_step m n).did (machine_trace (machine_step m n).machine ns)

-- the state of a thread; a thread that doesn't exist has ended
abbrev pub mode_state : Mode → ThreadState
mode_state mode.Running = state.Running
mode_state mode.Ended = state.Ended
mode_state mode.Trapped = state.Trapped

abbrev pub running_state : Machine → ℕ → Thread → ThreadState
running_state m n t = if n == 0 || setup_ended (slice_get m.threads 0) then mode_state t.mode else state.NotStarted

abbrev pub state_in : Machine → ℕ → Option Thread → ThreadState
state_in m n None = state.Ended
state_in m n (Some t) = if m.stopped then state.Stopped else running_state m n t

abbrev pub machine_state : Machine → ℕ → ThreadState
machine_state m n = state_in m n (slice_get m.threads n)
