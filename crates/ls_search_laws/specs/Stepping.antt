-- Runs of the source, one step more.
use Rattle.std.specs.Prelude.{◌≡◌, ℕ, ◌<◌, List, [], ◌∷◌, ◌++◌, Option, Some, None, length, map, replicate}
use Rattle.ls_events.specs.declared.event.Event.{Event}
use Rattle.ls_checked.specs.CheckedTree.{File}
use Rattle.ls_checked.specs.CheckedProgram.{Program}
use Rattle.ls_meaning.specs.declared.step.Did.{Did}
use Rattle.ls_meaning.specs.declared.step.Did.TheVariants as did
use Rattle.ls_meaning.specs.Still.{IsActing, IsStill}
use Rattle.ls_meaning.specs.Runs.{State, event_of, source_history, source_run, source_trace, step}

abbrev pub events_in : Option Event → List Event
events_in None = []
events_in (Some e) = e ∷ []

-- the events that a step adds to the history: one or none
abbrev pub events_of : ℕ → Did → List Event
events_of thread (did.Acted action answer) = events_in (event_of thread action)
events_of thread did.Waits = []
events_of thread did.Idle = []

-- One step more leaves the state after a step, and adds its events. So what comes depends on the state, and on nothing
-- else of what was.
pub record IsOneMore (file : File) (program : Program) (schedule : List ℕ) (t : ℕ) : Type 0 where
  pub state : source_run file program (schedule ++ t ∷ []) ≡
      (step file program (source_run file program schedule) t).after
  pub history : source_history file program (schedule ++ t ∷ []) ≡ source_history file program schedule ++
      events_of t (step file program (source_run file program schedule) t).did

abbrev pub RunsByStep : Type 0
RunsByStep = (file : File) (program : Program) (schedule : List ℕ) (t : ℕ) → IsOneMore file program schedule t

-- a step that doesn't act changes nothing, and threads that aren't there don't act
pub record IsNoStep (file : File) (program : Program) (s : State) (t : ℕ) : Type 0 where
  pub still : IsStill (step file program s t).did → (step file program s t).after ≡ s
  pub within : IsActing (step file program s t).did → t < length program.threads

abbrev pub OthersStay : Type 0
OthersStay = (file : File) (program : Program) (s : State) (t : ℕ) → IsNoStep file program s t

-- each step of the schedule acts: the threads of its trace are its steps
abbrev pub ActAll : File → Program → List ℕ → Type 0
ActAll file program schedule = map (λ e. e.thread) (source_trace file program schedule) ≡ schedule

-- the first k steps of the setup act; so no other thread has started before
abbrev pub SetsUp : File → Program → ℕ → Type 0
SetsUp file program k = (j : ℕ) → j < k →
    IsActing (step file program (source_run file program (replicate j 0)) 0).did

-- the schedule is like fewer steps of the setup
pub record IsBefore (file : File) (program : Program) (k : ℕ) (schedule : List ℕ) : Type 0 where
  pub count : ℕ
  pub fewer : count < k
  pub state : source_run file program schedule ≡ source_run file program (replicate count 0)
  pub history : source_history file program schedule ≡ source_history file program (replicate count 0)
