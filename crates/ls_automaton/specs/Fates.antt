-- What comes of each thread's next call in states between calls, if no other thread goes on.
use Rattle.std.specs.Prelude.{◌≡◌, ◌≤◌, ℕ, Bool, true, false, List, ◌++◌, Some, length, replicate, slice_get}
use Rattle.std.specs.declared.vec.Vec.{Vec}
use Rattle.std.specs.declared.alloc.Global.{Global}
use Rattle.ls_checked.specs.CheckedTree.{File}
use Rattle.ls_checked.specs.CheckedProgram.{Program}
use Rattle.ls_events.specs.declared.event.Event.{Event}
use Rattle.ls_meaning.specs.Runs.{source_history, source_run, step}
use Rattle.ls_meaning.specs.Still.{IsStill}
use Rattle.ls_serial.specs.Serial.{IsSerial}
use Rattle.ls_search_laws.specs.Stepping.{ActAll}
use Rattle.ls_serial_search.specs.Happened.{ActsFor, EndsIn, TurnsOn, WaitsWithin}
use Rattle.ls_serial_search.specs.Open.{HasEnded, IsOpen}
use Rattle.ls_automaton.specs.declared.fate.Fate.{Fate}
use Rattle.ls_automaton.specs.declared.fate.Fate.TheVariants as fate
use Rattle.ls_automaton.specs.Spots.{IsLastOf}

-- whether the call doesn't end within the bound
abbrev pub is_long : Fate → Bool
is_long fate.GoesOn = true
is_long _ = false

-- with the last of so many steps the call ends, and so
pub record EndsWith (file : File) (program : Program) (schedule : List ℕ) (t steps : ℕ) (end : Event) : Type 0 where
  pub ends : EndsIn file program schedule t steps
  pub ended : HasEnded file program schedule t steps
  pub last : IsLastOf (source_history file program (schedule ++ replicate steps t)) end

-- what comes of a thread's next call after a schedule, within so many steps
abbrev pub HasFate : File → Program → ℕ → List ℕ → ℕ → Fate → Type 0
HasFate file program bound schedule t fate.Stays =
    IsStill (step file program (source_run file program schedule) t).did
HasFate file program bound schedule t (fate.Waits call steps) = WaitsWithin file program schedule t call steps
HasFate file program bound schedule t (fate.Turns call) = TurnsOn file program schedule t call
HasFate file program bound schedule t (fate.Ends steps end) = EndsWith file program schedule t steps end
HasFate file program bound schedule t fate.GoesOn =
    IsOpen file program schedule t bound × ActsFor file program schedule t bound

abbrev pub AreFatesTo : File → Program → ℕ → List ℕ → List Fate → Type 0
AreFatesTo file program bound schedule fates =
    (t : ℕ) (f : Fate) → slice_get fates t ≡ Some f → HasFate file program bound schedule t f

-- so it is of each thread's
pub record AreFates (file : File) (program : Program) (bound : ℕ) (schedule : List ℕ) (fates : List Fate) : Type 0 where
  pub each : AreFatesTo file program bound schedule fates
  pub many : length fates ≡ length program.threads

-- Each way is a schedule of calls that run one at a time, each step of which acts. The first states have their fates.
pub record AreStates (file : File) (program : Program) (bound : ℕ) (ways : List (List ℕ))
    (rows : List (Vec Fate Global)) : Type 0 where
  pub serial : (n : ℕ) (way : List ℕ) → slice_get ways n ≡ Some way → IsSerial (source_history file program way)
  pub acts : (n : ℕ) (way : List ℕ) → slice_get ways n ≡ Some way → ActAll file program way
  pub fates : (n : ℕ) (way : List ℕ) (row : Vec Fate Global) → slice_get ways n ≡ Some way →
      slice_get rows n ≡ Some row → AreFates file program bound way row.items
  pub few : length rows ≤ length ways
