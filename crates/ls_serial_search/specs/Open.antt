-- Why a search isn't complete: a call that alone doesn't end, or too many orders.
use Rattle.std.specs.Prelude.{◌≡◌, ◌⊎◌, ℕ, ◌+◌, ◌<◌, ◌≤◌, List, [], ◌∷◌, ◌++◌, length, replicate}
use Rattle.ls_events.specs.Limits.{most_steps}
use Rattle.ls_events.specs.declared.event.Event.{Event}
use Rattle.ls_checked.specs.CheckedTree.{File}
use Rattle.ls_checked.specs.CheckedProgram.{Program}
use Rattle.ls_meaning.specs.Still.{IsActing}
use Rattle.ls_meaning.specs.Runs.{source_history, source_run, step}
use Rattle.ls_serial.specs.Serial.{IsEndOf, IsSerial}
use Rattle.ls_serial_search.specs.Following.{called}
use Rattle.ls_search_laws.specs.Stepping.{ActAll}
use Rattle.ls_serial_search.specs.Searched.{AreActing, AreSerial}
use Rattle.ls_serial_search.specs.Tree.{AreApart}

-- with so many steps more, the thread's next call has begun and ended
pub record HasEnded (file : File) (program : Program) (schedule : List ℕ) (thread steps : ℕ) : Type 0 where
  pub call : ℕ
  pub end : Event
  pub ends : IsEndOf (called thread call) end
  pub is : source_history file program (schedule ++ replicate steps thread) ≡
      source_history file program schedule ++ called thread call ∷ end ∷ []

-- the thread goes on, and its next call hasn't ended after any number of steps up to this one
pub record IsOpen (file : File) (program : Program) (schedule : List ℕ) (thread most : ℕ) : Type 0 where
  pub acts : IsActing (step file program (source_run file program schedule) thread).did
  pub none : (steps : ℕ) → steps ≤ most → ¬ HasEnded file program schedule thread steps

-- After a schedule each of whose steps acts, a thread begins a call and acts in each of its steps. But alone the call
-- doesn't end: not within so many steps, or not before there are as many as a schedule may have.
pub record IsLongAfter (file : File) (program : Program) (bound : ℕ) (schedule : List ℕ) (thread : ℕ) : Type 0 where
  pub steps : ℕ
  pub acts : ActAll file program (schedule ++ replicate steps thread)
  pub is_open : IsOpen file program schedule thread steps
  pub long : (bound ≤ steps) ⊎ (most_steps ≤ length schedule + steps)

-- so it is after a schedule whose calls ran one at a time
pub record HasLongCall (file : File) (program : Program) (bound : ℕ) : Type 0 where
  pub schedule : List ℕ
  pub thread : ℕ
  pub serial : IsSerial (source_history file program schedule)
  pub goes_on : IsLongAfter file program bound schedule thread

-- these are more schedules whose calls run one at a time, each of whose steps acts, no two with one history
pub record AreManyOrders (file : File) (program : Program) (bound : ℕ) (known : List (List ℕ)) : Type 0 where
  pub serial : AreSerial file program known
  pub acts : AreActing file program known
  pub apart : AreApart file program known
  pub many : bound < length known

abbrev pub HasManyOrders : File → Program → ℕ → Type 0
HasManyOrders file program bound = (known : List (List ℕ)) × AreManyOrders file program bound known
