-- What guards the calls of a class, and what that says of its thread programs.
use Rattle.std.specs.Prelude.{◌≡◌, ◌≢◌, ◌<◌, ℕ, List, [], ◌∷◌, Contains, length, slice_get}
use Rattle.ls_events.specs.declared.value.Value.{Value}
use Rattle.ls_checked.specs.CheckedTree.{File}
use Rattle.ls_checked.specs.CheckedProgram.{Program, ThreadProgram, ProgramCall, Making, Calling}
use Rattle.ls_linearizable.specs.Linearizable.{IsLinearizable}
use Rattle.ls_meaning.specs.Runs.{source_history}
use Rattle.ls_meaning.specs.Threads.{calls_in}
use Rattle.ls_meaning.specs.Values.{reference_of}
use Rattle.ls_one_at_a_time.specs.Laws.{RunsOneAtATime}
use Rattle.ls_one_at_a_time.specs.Locked.{RunsLocked}
use Rattle.ls_one_at_a_time.specs.Waiting.{NoThreadWaits}
use Rattle.ls_guarded.specs.declared.guard.Guard.{Guard}
use Rattle.ls_guarded.specs.declared.guard.Guard.TheVariants.{Monitor, Field, No}

-- values are ints, booleans or null
abbrev pub NameNoObject : List Value → Type 0
NameNoObject [] = Unit {0}
NameNoObject (v ∷ vs) = (reference_of v ≡ 0) × NameNoObject vs

-- a call of one of the methods, on the object of this name
abbrev pub IsCallOf : List ℕ → ℕ → ProgramCall → Type 0
IsCallOf methods name (Making n c text values) = ⊥
IsCallOf methods name (Calling n m text result values) = (n ≡ name) × Contains methods m × NameNoObject values

-- of calls
abbrev pub AreCallsOf : List ℕ → ℕ → List ProgramCall → Type 0
AreCallsOf methods name [] = Unit {0}
AreCallsOf methods name (c ∷ cs) = IsCallOf methods name c × AreCallsOf methods name cs

-- the setup makes one object of the class, and all other calls are of the methods on it
pub record IsOnOne (class : ℕ) (methods : List ℕ) (program : Program) : Type 0 where
  pub name : ℕ
  pub text : List ℕ
  pub values : List Value
  pub others : List ProgramCall
  pub setup : calls_in (slice_get program.threads 0) ≡ Making name class text values ∷ others
  pub known : name < length program.names
  pub null : NameNoObject values
  pub more : AreCallsOf methods name others
  pub calls : (t : ℕ) → t ≢ 0 → AreCallsOf methods name (calls_in (slice_get program.threads t))

-- the lock in this field of the object is held from the first to the last step of each call
pub record IsLockedBy (f : ℕ) (file : File) (program : Program) : Type 0 where
  pub runs : RunsLocked file program
  pub by : runs.field ≡ f

-- what is known of each program whose calls are so guarded
abbrev pub IsKeptBy : Guard → File → Program → Type 0
IsKeptBy Monitor file program = RunsOneAtATime file program
IsKeptBy (Field f) file program = IsLockedBy f file program
IsKeptBy (No reason) file program = Unit {0}

-- the monitor is held from the first to the last step of each call of each program of the family
abbrev pub IsMonitorOf : File → ℕ → List ℕ → Type 0
IsMonitorOf file class methods = (program : Program) → IsOnOne class methods program → RunsOneAtATime file program

-- the same of the lock in a field
abbrev pub IsLockOf : File → ℕ → ℕ → List ℕ → Type 0
IsLockOf file class f methods = (program : Program) → IsOnOne class methods program → IsLockedBy f file program

-- a guard of the methods of a class
abbrev pub Guards : Guard → File → ℕ → List ℕ → Type 0
Guards guard file class methods = (program : Program) → IsOnOne class methods program → IsKeptBy guard file program

-- the history of each schedule, of any length, is linearizable, and no thread waits where none acts
pub record IsCalm (file : File) (program : Program) : Type 0 where
  pub linearizable : (schedule : List ℕ) → IsLinearizable file program (source_history file program schedule)
  pub waits : NoThreadWaits file program

-- a guard is told
abbrev pub IsSome : Guard → Type 0
IsSome (No reason) = ⊥
IsSome _ = Unit {0}

-- where a guard is told, each such program is calm
abbrev pub GuardedAreCalm : Type 0
GuardedAreCalm = (guard : Guard) (file : File) (program : Program) → IsSome guard → IsKeptBy guard file program →
    IsCalm file program

-- ---- as code finds it

-- the object of this name is made first, and all other calls are of the methods on it
pub record IsSetup (class : ℕ) (methods : List ℕ) (names name : ℕ) (calls : List ProgramCall) : Type 0 where
  pub text : List ℕ
  pub values : List Value
  pub others : List ProgramCall
  pub is : calls ≡ Making name class text values ∷ others
  pub known : name < names
  pub null : NameNoObject values
  pub more : AreCallsOf methods name others

-- all calls of the threads are of the methods on the object
abbrev pub AreThreadsOf : List ℕ → ℕ → List ThreadProgram → Type 0
AreThreadsOf methods name [] = Unit {0}
AreThreadsOf methods name (t ∷ ts) = AreCallsOf methods name t.calls × AreThreadsOf methods name ts

-- the threads of a program of the family
pub record AreOnOne (class : ℕ) (methods : List ℕ) (names : ℕ) (threads : List ThreadProgram) : Type 0 where
  pub name : ℕ
  pub first : ThreadProgram
  pub others : List ThreadProgram
  pub is : threads ≡ first ∷ others
  pub setup : IsSetup class methods names name first.calls
  pub more : AreThreadsOf methods name others
