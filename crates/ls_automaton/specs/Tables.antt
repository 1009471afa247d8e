-- States of a program between calls that run one at a time, by number, and what calls do there.
use Rattle.std.specs.Prelude.{◌≡◌, ◌⊎◌, ◌≤◌, ℕ, Bool, false, List, [], ◌∷◌, ◌++◌, Some, Contains, replicate, slice_get}
use Rattle.std.specs.declared.vec.Vec.{Vec}
use Rattle.std.specs.declared.alloc.Global.{Global}
use Rattle.ls_events.specs.declared.event.Event.{Event}
use Rattle.ls_checked.specs.CheckedTree.{File}
use Rattle.ls_checked.specs.CheckedProgram.{Program}
use Rattle.ls_meaning.specs.Runs.{source_history, source_run}
use Rattle.ls_serial.specs.Serial.{IsEnd}
use Rattle.ls_search_laws.specs.Configuration.{configuration_of}
use Rattle.ls_serial_search.specs.Following.{called}
use Rattle.ls_serial_search.specs.Open.{HasEnded}
use Rattle.ls_serial_search.specs.Searched.{AreSerial}
use Rattle.ls_automaton.specs.declared.outcome.Outcome.{Outcome}

-- in the state of this number, the call with this end leads to that of another
pub record Goes (rows : List (Vec Outcome Global)) (n : ℕ) (c e : Event) (m : ℕ) : Type 0 where
  pub row : Vec Outcome Global
  pub at : slice_get rows n ≡ Some row
  pub there : Contains row.items (record { end = e; after = m })

-- Schedules stand for the states. After the schedule, so many steps of its thread begin the call and end it so. Then
-- each thread goes on as after the schedule of the number, and the store is the same.
pub record IsOutcome (file : File) (program : Program) (spots : List (List ℕ)) (schedule : List ℕ) (o : Outcome) :
    Type 0 where
  pub is_end : IsEnd o.end
  pub steps : ℕ
  pub history : source_history file program (schedule ++ replicate steps o.end.thread) ≡
      source_history file program schedule ++ called o.end.thread o.end.call ∷ o.end ∷ []
  pub next : List ℕ
  pub there : slice_get spots o.after ≡ Some next
  pub same : configuration_of file program (source_run file program (schedule ++ replicate steps o.end.thread)) ≡
      configuration_of file program (source_run file program next)

-- one of the outcomes is that of a call of this thread
pub record HasOutcome (row : List Outcome) (t : ℕ) : Type 0 where
  pub outcome : Outcome
  pub there : Contains row outcome
  pub thread : outcome.end.thread ≡ t

-- each call of a thread that ends so after the schedule, within the bound or if none goes on, has its outcome
abbrev pub AreTold : File → Program → ℕ → Bool → List ℕ → List Outcome → Type 0
AreTold file program bound goes_on schedule row =
    (t steps : ℕ) → HasEnded file program schedule t steps → (steps ≤ bound) ⊎ (goes_on ≡ false) → HasOutcome row t

-- The outcomes of each state. The first is that of the start.
pub record AreOutcomes (file : File) (program : Program) (bound : ℕ) (goes_on : Bool)
    (rows : List (Vec Outcome Global)) : Type 0 where
  pub spots : List (List ℕ)
  pub first : slice_get spots 0 ≡ Some []
  pub serial : AreSerial file program spots
  pub told : (n : ℕ) (schedule : List ℕ) → slice_get spots n ≡ Some schedule →
      (row : Vec Outcome Global) × (slice_get rows n ≡ Some row) ×
      AreTold file program bound goes_on schedule row.items
  pub outcomes : (n : ℕ) (schedule : List ℕ) (row : Vec Outcome Global) (o : Outcome) →
      slice_get spots n ≡ Some schedule → slice_get rows n ≡ Some row → Contains row.items o →
      IsOutcome file program spots schedule o
  pub ends : (n : ℕ) (row : Vec Outcome Global) (o : Outcome) → slice_get rows n ≡ Some row → Contains row.items o →
      IsEnd o.end
