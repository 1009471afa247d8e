-- What a step does to its thread's call, and what comes of a call.
use Rattle.std.specs.Prelude.{◌≡◌, ℕ, ◌+◌, ◌<◌, ◌≤◌, List, [], ◌∷◌, ◌++◌, replicate}
use Rattle.ls_events.specs.declared.event.Event.{Event}
use Rattle.ls_checked.specs.CheckedTree.{File}
use Rattle.ls_checked.specs.CheckedProgram.{Program}
use Rattle.ls_meaning.specs.declared.step.Did.{Did}
use Rattle.ls_meaning.specs.Still.{IsActing, IsStill}
use Rattle.ls_meaning.specs.Runs.{source_history, source_run, step}
use Rattle.ls_serial.specs.Serial.{IsEndOf, IsSerial}
use Rattle.ls_serial_search.specs.declared.following.Happened.{Happened}
use Rattle.ls_serial_search.specs.declared.following.Happened.TheVariants as happened
use Rattle.ls_serial_search.specs.declared.following.Followed.{Followed}
use Rattle.ls_serial_search.specs.declared.following.Followed.TheVariants as followed
use Rattle.ls_serial_search.specs.Following.{IsBegun, NeverEnds, called, events_of}
use Rattle.ls_serial_search.specs.Open.{HasEnded, IsOpen}

-- the event of a step is the end of a call
pub record IsLast (thread call : ℕ) (events : List Event) : Type 0 where
  pub end : Event
  pub is : events ≡ end ∷ []
  pub ends : IsEndOf (called thread call) end

-- what the events of a step say of the call
abbrev pub EventsSay : ℕ → List Event → Happened → Type 0
EventsSay thread events happened.Stays = ⊥
EventsSay thread events happened.GoesOn = events ≡ []
EventsSay thread events (happened.Begins call) = events ≡ called thread call ∷ []
EventsSay thread events (happened.Ends call) = IsLast thread call events

abbrev pub HasHappened : ℕ → Did → Happened → Type 0
HasHappened thread did happened.Stays = IsStill did
HasHappened thread did happened.GoesOn = IsActing did × (events_of thread did ≡ [])
HasHappened thread did (happened.Begins call) = events_of thread did ≡ called thread call ∷ []
HasHappened thread did (happened.Ends call) = IsLast thread call (events_of thread did)

-- each of so many steps of the thread acts
abbrev pub ActsFor : File → Program → List ℕ → ℕ → ℕ → Type 0
ActsFor file program schedule thread steps = (j : ℕ) → j < steps →
    IsActing (step file program (source_run file program (schedule ++ replicate j thread)) thread).did

-- each of so many steps acts, and with the last of them the call ends
pub record EndsIn (file : File) (program : Program) (schedule : List ℕ) (thread steps : ℕ) : Type 0 where
  pub call : ℕ
  pub before : ℕ
  pub is : steps ≡ before + 1
  pub begun : IsBegun file program schedule thread call before
  pub acts : ActsFor file program schedule thread steps
  pub serial : IsSerial (source_history file program schedule) →
      IsSerial (source_history file program (schedule ++ replicate steps thread))

-- The thread's next call has begun with these steps, each of which acts. With the next one the thread waits.
pub record WaitsWithin (file : File) (program : Program) (schedule : List ℕ) (thread call steps : ℕ) : Type 0 where
  pub some : 1 ≤ steps
  pub begun : IsBegun file program schedule thread call steps
  pub acts : ActsFor file program schedule thread steps
  pub waits : IsStill
      (step file program (source_run file program (schedule ++ replicate steps thread)) thread).did

-- Each step of the thread acts. But nothing more comes than that its next call begins.
pub record TurnsOn (file : File) (program : Program) (schedule : List ℕ) (thread call : ℕ) : Type 0 where
  pub never : NeverEnds file program schedule thread call
  pub acts : (n : ℕ) →
      IsActing (step file program (source_run file program (schedule ++ replicate n thread)) thread).did

-- what comes of the call within so many steps
abbrev pub HasFollowed : File → Program → List ℕ → ℕ → ℕ → Followed → Type 0
HasFollowed file program schedule thread most followed.Stays =
    IsStill (step file program (source_run file program schedule) thread).did
HasFollowed file program schedule thread most (followed.Waits call steps) =
    WaitsWithin file program schedule thread call steps × (steps ≤ most)
HasFollowed file program schedule thread most (followed.Turns call) =
    TurnsOn file program schedule thread call × (1 ≤ most)
HasFollowed file program schedule thread most (followed.Ends steps) =
    EndsIn file program schedule thread steps × (steps ≤ most) × HasEnded file program schedule thread steps
HasFollowed file program schedule thread most followed.GoesOn =
    IsSerial (source_history file program schedule) →
    IsOpen file program schedule thread most × ActsFor file program schedule thread most
