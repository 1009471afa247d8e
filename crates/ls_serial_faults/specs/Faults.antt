-- What may be wrong with a call where calls run one at a time: it throws, waits for ever, or turns for ever.
use Rattle.std.specs.Prelude.{◌≡◌, ◌⊎◌, ℕ, List, [], ◌∷◌, ◌++◌, None, IfSome, replicate}
use Rattle.ls_checked.specs.CheckedProgram.{Program}
use Rattle.ls_checked.specs.CheckedTree.{File}
use Rattle.ls_events.specs.declared.event.Event.{Event}
use Rattle.ls_events.specs.declared.event.Happening.TheVariants.{Trapped}
use Rattle.ls_events.specs.declared.kind.Kind.{Kind}
use Rattle.ls_meaning.specs.Runs.{source_history, source_run, step}
use Rattle.ls_meaning.specs.Still.{IsActing, IsStill}
use Rattle.ls_search_laws.specs.Stepping.{ActAll}
use Rattle.ls_serial.specs.Serial.{IsSerial}
use Rattle.ls_serial_search.specs.Following.{called}
use Rattle.ls_serial_search.specs.Open.{HasLongCall, HasManyOrders}
use Rattle.ls_serial_faults.specs.declared.faults.SerialFaults.{SerialFaults}
use Rattle.ls_serial_faults.specs.declared.faults.Stopped.{Stopped}
use Rattle.ls_serial_faults.specs.declared.faults.Thrown.{Thrown}
use Rattle.ls_serial_search.specs.declared.telling.Bounds.{Bounds}

-- the end of a call by an exception
abbrev pub trapped : ℕ → ℕ → Kind → Event
trapped thread n kind = record { thread = thread; call = n; happening = Trapped kind }

module _ (file : File) (program : Program) (schedule : List ℕ) (thread call : ℕ) where
  -- After the schedule calls have run one at a time, and the last of them has ended by this exception: the call of this
  -- number of this thread.
  pub record ThrowsAlone (kind : Kind) : Type 0 where
    pub before : List Event
    pub serial : IsSerial (source_history file program schedule)
    pub is : source_history file program schedule ≡ before ++ called thread call ∷ trapped thread call kind ∷ []

  -- After the schedule calls have run one at a time, and then this one has begun, and hasn't ended.
  pub record IsPendingAlone : Type 0 where
    pub before : List Event
    pub serial : IsSerial before
    pub is : source_history file program schedule ≡ before ++ called thread call ∷ []

  -- its thread waits, and no other thread is within a call
  pub record WaitsAlone : Type 0 where
    pub pending : IsPendingAlone
    pub waits : IsStill (step file program (source_run file program schedule) thread).did

  -- However many steps its thread makes while no other one does, each acts, and nothing more comes.
  pub record TurnsAlone : Type 0 where
    pub pending : IsPendingAlone
    pub acts : (n : ℕ) →
        IsActing (step file program (source_run file program (schedule ++ replicate n thread)) thread).did
    pub quiet : (n : ℕ) →
        source_history file program (schedule ++ replicate n thread) ≡ source_history file program schedule

module _ (file : File) (program : Program) where
  -- ---- no call is so, after any schedule

  abbrev pub NoneThrows : Type 0
  NoneThrows = (schedule : List ℕ) (thread call : ℕ) (kind : Kind) →
      ThrowsAlone file program schedule thread call kind → ⊥

  abbrev pub NoneWaits : Type 0
  NoneWaits = (schedule : List ℕ) (thread call : ℕ) → WaitsAlone file program schedule thread call → ⊥

  abbrev pub NoneTurns : Type 0
  NoneTurns = (schedule : List ℕ) (thread call : ℕ) → TurnsAlone file program schedule thread call → ⊥

  -- ---- what is found: each step of its schedule acts

  abbrev pub IsThrown : Thrown → Type 0
  IsThrown t = ThrowsAlone file program t.schedule t.thread t.call t.kind × ActAll file program t.schedule

  abbrev pub IsWaiting : Stopped → Type 0
  IsWaiting s = WaitsAlone file program s.schedule s.thread s.call × ActAll file program s.schedule

  abbrev pub IsTurning : Stopped → Type 0
  IsTurning s = TurnsAlone file program s.schedule s.thread s.call × ActAll file program s.schedule

  -- each that is found is so
  pub record AreFaults (f : SerialFaults) : Type 0 where
    pub throws : IfSome f.throws IsThrown
    pub waits : IfSome f.waits IsWaiting
    pub turns : IfSome f.turns IsTurning

  -- none is so that isn't found
  pub record AreAllFaults (f : SerialFaults) : Type 0 where
    pub throws : f.throws ≡ None → NoneThrows
    pub waits : f.waits ≡ None → NoneWaits
    pub turns : f.turns ≡ None → NoneTurns

  -- a bound was met: a call alone goes on for too long, or there are too many orders of calls
  abbrev pub MeetsBound : Bounds → Type 0
  MeetsBound bounds = HasManyOrders file program bounds.orders ⊎ HasLongCall file program bounds.steps
