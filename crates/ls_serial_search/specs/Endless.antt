-- Calls that never end while no other thread goes on, after calls that ran one at a time.
use Rattle.std.specs.Prelude.{◌≡◌, ◌<◌, ℕ, ◌+◌, List, [], ◌∷◌, ◌++◌, Contains, replicate}
use Rattle.ls_events.specs.declared.event.Event.{Event}
use Rattle.ls_checked.specs.CheckedTree.{File}
use Rattle.ls_checked.specs.CheckedProgram.{Program}
use Rattle.ls_meaning.specs.Runs.{source_history}
use Rattle.ls_serial.specs.Serial.{IsCall, IsSerial}

-- Calls ran one at a time, and then one more has begun. However many steps its thread makes, nothing more comes.
pub record IsEndlessRun (file : File) (program : Program) (run : List Event) : Type 0 where
  pub schedule : List ℕ
  pub before : List Event
  pub call : Event
  pub is : run ≡ before ++ call ∷ []
  pub serial : IsSerial before
  pub is_call : IsCall call
  pub never : (steps : ℕ) → source_history file program (schedule ++ replicate steps call.thread) ≡ run

abbrev pub AreEndlessRuns : File → Program → List (List Event) → Type 0
AreEndlessRuns file program runs = (run : List Event) → Contains runs run → IsEndlessRun file program run

-- all of them
abbrev pub TellEndlessRuns : File → Program → List (List Event) → Type 0
TellEndlessRuns file program runs = (run : List Event) → IsEndlessRun file program run → Contains runs run

-- ---- after one schedule

-- with so many steps of a thread its next call has begun, and with more of them nothing more comes
pub record IsEndlessAfter (file : File) (program : Program) (schedule : List ℕ) (t : ℕ) (c : Event) : Type 0 where
  pub steps : ℕ
  pub never : (more : ℕ) →
      source_history file program (schedule ++ replicate (steps + more) t) ≡
      source_history file program schedule ++ c ∷ []

-- if a call of the thread is so, this is one of the runs
abbrev pub HasTried : File → Program → List (List Event) → List ℕ → ℕ → Type 0
HasTried file program runs schedule t =
    (c : Event) → IsEndlessAfter file program schedule t c →
    Contains runs (source_history file program schedule ++ c ∷ [])

-- so of each of these threads
abbrev pub HaveTried : File → Program → List (List Event) → List ℕ → ℕ → Type 0
HaveTried file program runs schedule threads =
    (t : ℕ) → t < threads → HasTried file program runs schedule t
