-- States of a program between calls that run one at a time, each by steps that lead there.
use Rattle.std.specs.Prelude.{◌≡◌, ◌⊎◌, ◌≤◌, ℕ, Bool, false, List, [], ◌∷◌, ◌++◌, Some, Contains, map, slice_get}
use Rattle.ls_events.specs.declared.event.Event.{Event}
use Rattle.ls_checked.specs.CheckedTree.{File}
use Rattle.ls_checked.specs.CheckedProgram.{Program}
use Rattle.ls_meaning.specs.Runs.{source_history, source_run}
use Rattle.ls_serial.specs.Serial.{IsSerial}
use Rattle.ls_search_laws.specs.Configuration.{configuration_of}
use Rattle.ls_search_laws.specs.Stepping.{ActAll}
use Rattle.ls_serial_search.specs.Marks.{IsMarkOf}
use Rattle.ls_serial_search.specs.Open.{HasEnded}
use Rattle.ls_serial_search.specs.Orders.{progress_at}
use Rattle.ls_source.specs.declared.playing.Playing.{Playing}
use Rattle.ls_source.specs.Stands.{StandsFor}
use Rattle.ls_automaton.specs.declared.outcome.Outcome.{Outcome}
use Rattle.ls_automaton.specs.declared.spots.Spot.{Spot}
use Rattle.ls_automaton.specs.Tables.{AreTold, HasOutcome, IsOutcome}

abbrev pub schedules_of : List Spot → List (List ℕ)
schedules_of spots = map (λ s. s.steps.items) spots

-- calls run one at a time, each step acts, and the mark is where the run stands after them
pub record IsSpot (file : File) (program : Program) (s : Spot) : Type 0 where
  pub run : Playing
  pub mark : IsMarkOf s.mark run
  pub at : StandsFor run (progress_at file program s.steps.items)
  pub serial : IsSerial (source_history file program s.steps.items)
  pub acts : ActAll file program s.steps.items

abbrev pub AreSpots : File → Program → List Spot → Type 0
AreSpots file program spots = (s : Spot) → Contains spots s → IsSpot file program s

pub record IsFirst (file : File) (program : Program) (s : Spot) : Type 0 where
  pub steps : s.steps.items ≡ []
  pub is : IsSpot file program s

-- it alone
abbrev pub AreFirst : File → Program → List Spot → Type 0
AreFirst file program spots = (s : Spot) × (spots ≡ s ∷ []) × IsFirst file program s

-- the run stands where the mark of this number is
pub record IsMarkedAt (spots : List Spot) (n : ℕ) (run : Playing) : Type 0 where
  pub spot : Spot
  pub there : slice_get spots n ≡ Some spot
  pub mark : IsMarkOf spot.mark run

abbrev pub Grows : List Spot → List Spot → Type 0
Grows old new = (more : List Spot) × (old ++ more ≡ new)

-- at most the state after these steps is new
abbrev pub MayBePushed : List Spot → List Spot → List ℕ → Type 0
MayBePushed old new steps = (schedules_of new ≡ schedules_of old) ⊎
    (schedules_of new ≡ schedules_of old ++ steps ∷ [])

pub record IsLastOf (events : List Event) (e : Event) : Type 0 where
  pub front : List Event
  pub is : events ≡ front ++ e ∷ []

-- the state after these steps has the number, which is among more states
pub record IsNumbered (file : File) (program : Program) (old new : List Spot) (steps : List ℕ) (n : ℕ) : Type 0 where
  pub grows : Grows old new
  pub are : AreSpots file program new
  pub next : List ℕ
  pub there : slice_get (schedules_of new) n ≡ Some next
  pub same : configuration_of file program (source_run file program steps) ≡
      configuration_of file program (source_run file program next)

-- The outcome of the thread's next call stands in the row, if it is known. What is new there is an outcome.
pub record IsAsked (file : File) (program : Program) (bound : ℕ) (goes_on : Bool) (schedule : List ℕ) (t : ℕ)
    (old new : List Spot) (row more : List Outcome) : Type 0 where
  pub grows : Grows old new
  pub are : AreSpots file program new
  pub kept : (o : Outcome) → Contains row o → Contains more o
  pub outcomes : (o : Outcome) → Contains more o →
      Contains row o ⊎ IsOutcome file program (schedules_of new) schedule o
  pub told : (steps : ℕ) → HasEnded file program schedule t steps → (steps ≤ bound) ⊎ (goes_on ≡ false) →
      HasOutcome more t

-- the outcomes of all calls after the schedule
pub record IsFound (file : File) (program : Program) (bound : ℕ) (goes_on : Bool) (old new : List Spot)
    (schedule : List ℕ) (row : List Outcome) : Type 0 where
  pub grows : Grows old new
  pub are : AreSpots file program new
  pub outcomes : (o : Outcome) → Contains row o → IsOutcome file program (schedules_of new) schedule o
  pub told : AreTold file program bound goes_on schedule row
