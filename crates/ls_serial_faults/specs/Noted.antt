-- What is noted of calls that run one at a time, by what comes of them in states between calls.
use Rattle.std.specs.Prelude.{◌≡◌, ◌+◌, ◌<◌, ℕ, true, false, List, [], ◌∷◌, ◌++◌, Option, None, Some, length}
use Rattle.std.specs.Prelude.{replicate, slice_get}
use Rattle.ls_automaton.specs.declared.fate.Fate.{Fate}
use Rattle.ls_automaton.specs.Fates.{HasFate}
use Rattle.ls_checked.specs.CheckedProgram.{Program}
use Rattle.ls_checked.specs.CheckedTree.{File}
use Rattle.ls_events.specs.Limits.{most_steps}
use Rattle.ls_events.specs.declared.event.Event.{Event}
use Rattle.ls_events.specs.declared.event.Happening.{Happening}
use Rattle.ls_events.specs.declared.event.Happening.TheVariants.{Called, Returned, Trapped}
use Rattle.ls_events.specs.declared.kind.Kind.{Kind}
use Rattle.ls_meaning.specs.Runs.{source_history, source_run, step}
use Rattle.ls_meaning.specs.Still.{IsActing, IsStill}
use Rattle.ls_search_laws.specs.Stepping.{ActAll}
use Rattle.ls_serial.specs.Serial.{IsSerial}
use Rattle.ls_serial_search.specs.Following.{called}
use Rattle.ls_serial_search.specs.Open.{HasLongCall}
use Rattle.ls_serial_faults.specs.Faults.{AreFaults, trapped}
use Rattle.ls_serial_faults.specs.declared.faults.SerialFaults.{SerialFaults}
use Rattle.ls_serial_faults.specs.declared.faults.Stopped.{Stopped}
use Rattle.ls_serial_faults.specs.declared.faults.Thrown.{Thrown}

module _ (file : File) (program : Program) (way : List ℕ) where
  abbrev after : ℕ → ℕ → List ℕ
  after thread steps = way ++ replicate steps thread

  abbrev begun : ℕ → ℕ → List Event
  begun thread call = source_history file program way ++ called thread call ∷ []

  -- with so many steps of the thread its next call has begun, and has ended by an exception
  abbrev pub ThrowsAfter : ℕ → ℕ → ℕ → Kind → Type 0
  ThrowsAfter thread call steps kind = source_history file program (after thread steps) ≡
      source_history file program way ++ called thread call ∷ trapped thread call kind ∷ []

  -- with so many steps of the thread its next call has begun; and then the thread waits
  pub record WaitsAfter (thread call steps : ℕ) : Type 0 where
    pub begins : source_history file program (after thread steps) ≡ begun thread call
    pub waits : IsStill (step file program (source_run file program (after thread steps)) thread).did

  -- with so many steps its next call has begun; from then on each step acts, and nothing more comes
  pub record TurnsAfter (thread call steps : ℕ) : Type 0 where
    pub begins : (n : ℕ) → source_history file program (after thread (steps + n)) ≡ begun thread call
    pub acts : (n : ℕ) →
        IsActing (step file program (source_run file program (after thread (steps + n))) thread).did

  -- if the next call of the thread throws, waits, or turns for ever, one that does is found
  pub record IsTried (thread : ℕ) (f : SerialFaults) : Type 0 where
    pub throws : f.throws ≡ None → (call steps : ℕ) (kind : Kind) → ThrowsAfter thread call steps kind → ⊥
    pub waits : f.waits ≡ None → (call steps : ℕ) → WaitsAfter thread call steps → ⊥
    pub turns : f.turns ≡ None → (call steps : ℕ) → TurnsAfter thread call steps → ⊥

  -- so it is, if no bound is met
  abbrev pub HasNoted : ℕ → SerialFaults → Type 0
  HasNoted thread f = f.complete ≡ true → IsTried thread f

-- the one that was noted; or, if none was, this call of the thread after the way and so many steps
pub record IsFirstStopped (way : List ℕ) (thread call steps : ℕ) (new : Option Stopped) : Type 0 where
  pub stopped : Stopped
  pub is : new ≡ Some stopped
  pub schedule_is : stopped.schedule ≡ way ++ replicate steps thread
  pub thread_is : stopped.thread ≡ thread
  pub call_is : stopped.call ≡ call

abbrev pub IsNoted : List ℕ → ℕ → ℕ → ℕ → Option Stopped → Option Stopped → Type 0
IsNoted way thread call steps None new = IsFirstStopped way thread call steps new
IsNoted way thread call steps (Some stopped) new = new ≡ Some stopped

-- or the call with this end, if that is an exception
pub record IsFirstThrown (way : List ℕ) (thread steps : ℕ) (end : Event) (kind : Kind) (new : Option Thrown) : Type 0
  where
    pub thrown : Thrown
    pub is : new ≡ Some thrown
    pub schedule_is : thrown.schedule ≡ way ++ replicate steps thread
    pub end_is : end ≡ trapped thrown.thread thrown.call thrown.kind

abbrev pub IsThrownBy : List ℕ → ℕ → ℕ → Event → Happening → Option Thrown → Type 0
IsThrownBy way thread steps end (Trapped kind) new = IsFirstThrown way thread steps end kind new
IsThrownBy way thread steps end Called new = new ≡ None
IsThrownBy way thread steps end (Returned value) new = new ≡ None

abbrev pub IsNotedThrown : List ℕ → ℕ → ℕ → Event → Option Thrown → Option Thrown → Type 0
IsNotedThrown way thread steps end None new = IsThrownBy way thread steps end end.happening new
IsNotedThrown way thread steps end (Some thrown) new = new ≡ Some thrown

-- a schedule can't have so many steps, and nothing is noted
abbrev pub IsTooLong : {A : Type 0} → List ℕ → ℕ → A → A → Type 0
IsTooLong way steps old new = (most_steps < length way + steps) × (new ≡ old)

-- what is found is found still
pub record IsKeptIn (old new : SerialFaults) : Type 0 where
  pub throws : new.throws ≡ None → old.throws ≡ None
  pub waits : new.waits ≡ None → old.waits ≡ None
  pub turns : new.turns ≡ None → old.turns ≡ None
  pub complete : new.complete ≡ true → old.complete ≡ true

-- What is found is so still, and none is lost. The thread's next call is noted, or a call alone goes on for too long.
pub record IsAdded (file : File) (program : Program) (bound : ℕ) (way : List ℕ) (thread : ℕ)
    (old new : SerialFaults) : Type 0 where
  pub faults : AreFaults file program old → AreFaults file program new
  pub noted : HasNoted file program way thread new
  pub kept : IsKeptIn old new
  pub why : old.complete ≡ true → new.complete ≡ false → HasLongCall file program bound

-- so it is where calls have run one at a time, each step acts, and this comes of the thread's next call
abbrev pub AreNoted : File → Program → ℕ → List ℕ → ℕ → Fate → SerialFaults → SerialFaults → Type 0
AreNoted file program bound way thread fate old new =
    IsSerial (source_history file program way) → ActAll file program way →
    HasFate file program bound way thread fate → IsAdded file program bound way thread old new

-- ---- of the first threads

pub record AreAdded (file : File) (program : Program) (bound : ℕ) (way : List ℕ) (count : ℕ)
    (old new : SerialFaults) : Type 0 where
  pub faults : AreFaults file program old → AreFaults file program new
  pub noted : (t : ℕ) → t < count → HasNoted file program way t new
  pub kept : IsKeptIn old new
  pub why : old.complete ≡ true → new.complete ≡ false → HasLongCall file program bound

abbrev pub AreAllNoted : File → Program → ℕ → List ℕ → List Fate → ℕ → SerialFaults → SerialFaults → Type 0
AreAllNoted file program bound way fates count old new =
    IsSerial (source_history file program way) → ActAll file program way →
    ((t : ℕ) (f : Fate) → slice_get fates t ≡ Some f → HasFate file program bound way t f) →
    AreAdded file program bound way count old new
