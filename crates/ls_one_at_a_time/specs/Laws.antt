-- Programs whose calls run one at a time are linearizable, whatever their size.
use Rattle.std.specs.Prelude.{◌≡◌, ◌≢◌, ◌<◌, ℕ, Bool, true, List, [], ◌∷◌, length, slice_get}
use Rattle.ls_events.specs.declared.value.Value.{Value}
use Rattle.ls_checked.specs.CheckedTree.{File}
use Rattle.ls_checked.specs.CheckedProgram.{Program, ProgramCall, Making, Calling}
use Rattle.ls_meaning.specs.Expressions.{constructor_of}
use Rattle.ls_meaning.specs.Threads.{calls_in}
use Rattle.ls_meaning.specs.Runs.{source_history}
use Rattle.ls_linearizable.specs.Linearizable.{IsLinearizable}
use Rattle.ls_one_at_a_time.specs.Inner.{AreHelpers, IsSynchronized}
use Rattle.ls_one_at_a_time.specs.Waiting.{NoThreadWaits}

-- each of the calls is one of a synchronized method on the object of this name
abbrev pub AreSynchronized : (ℕ → Type 0) → File → ℕ → List ProgramCall → Type 0
AreSynchronized Helps file name [] = Unit {0}
AreSynchronized Helps file name (Making n c text values ∷ cs) = ⊥
AreSynchronized Helps file name (Calling n m text result values ∷ cs) =
    (n ≡ name) × IsSynchronized Helps file m × AreSynchronized Helps file name cs

-- The setup makes an object, and all other calls, of the setup and of the threads, are of its synchronized methods.
-- The constructor and what the bodies call hold no monitor.
pub record RunsOneAtATime (file : File) (program : Program) : Type 0 where
  pub helps : ℕ → Bool
  pub helpers : AreHelpers (λ m. helps m ≡ true) file
  pub name : ℕ
  pub class : ℕ
  pub text : List ℕ
  pub values : List Value
  pub others : List ProgramCall
  pub setup : calls_in (slice_get program.threads 0) ≡ Making name class text values ∷ others
  pub known : name < length program.names
  pub constructor : helps (constructor_of file.classes class) ≡ true
  pub more : AreSynchronized (λ m. helps m ≡ true) file name others
  pub calls : (t : ℕ) → t ≢ 0 → AreSynchronized (λ m. helps m ≡ true) file name (calls_in (slice_get program.threads t))

-- then the history of each schedule, of any length, is linearizable
abbrev pub AllOneAtATime : Type 0
AllOneAtATime =
    (file : File) (program : Program) → RunsOneAtATime file program → (schedule : List ℕ) →
    IsLinearizable file program (source_history file program schedule)

-- and where no thread acts, none waits
abbrev pub NoneWaitOneAtATime : Type 0
NoneWaitOneAtATime = (file : File) (program : Program) → RunsOneAtATime file program → NoThreadWaits file program
