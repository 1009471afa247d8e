-- The runs of threads that begin their calls again, and those of the program with its calls written many times.
use Rattle.std.specs.Prelude.{◌≡◌, ◌<◌, ◌+◌, ◌*◌, ℕ, zero, suc, List, [], ◌∷◌, ◌++◌, length, map, slice_get}
use Rattle.ls_events.specs.declared.value.Value.{Value}
use Rattle.ls_events.specs.declared.action.Action.{Action}
use Rattle.ls_events.specs.declared.action.Action.TheVariants.{Call, Return, Trap}
use Rattle.ls_checked.specs.CheckedTree.{File}
use Rattle.ls_checked.specs.CheckedProgram.{Program, ProgramCall, ThreadProgram}
use Rattle.ls_meaning.specs.declared.step.Did.{Did}
use Rattle.ls_meaning.specs.declared.step.Did.TheVariants as did
use Rattle.ls_meaning.specs.Runs.{source_run, step}
use Rattle.ls_meaning.specs.Threads.{calls_in}
use Rattle.ls_search_laws.specs.Configuration.{Configuration, stride}
use Rattle.ls_progress_laws.specs.Again.{for_ever}
use Rattle.ls_progress_laws.specs.Laws.{place_after}
use Rattle.ls_progress_laws.specs.Strides.{end}

-- ---- the program with its calls written many times

-- so many times these calls
abbrev pub written : ℕ → List ProgramCall → List ProgramCall
written zero calls = []
written (suc k) calls = calls ++ written k calls

abbrev pub thread_written : ℕ → ThreadProgram → ThreadProgram
thread_written k t = record { name = t.name; calls = written k t.calls }

-- but those of the setup
abbrev pub threads_written : ℕ → List ThreadProgram → List ThreadProgram
threads_written k [] = []
threads_written k (setup ∷ threads) = setup ∷ map (thread_written k) threads

abbrev pub program_written : ℕ → Program → Program
program_written k program = record { names = program.names; threads = threads_written k program.threads }

-- ---- the same but for the numbers of calls

-- the first is the number of a call, and the second its number in a round of so many calls
pub record IsInRound (many n m : ℕ) : Type 0 where
  pub rounds : ℕ
  pub is : n ≡ rounds * many + m

abbrev pub IsSameAction : ℕ → Action Value → Action Value → Type 0
IsSameAction many (Call n) (Call m) = IsInRound many n m
IsSameAction many (Return n v) (Return m w) = IsInRound many n m × (v ≡ w)
IsSameAction many (Trap n kind) (Trap m other) = IsInRound many n m × (kind ≡ other)
IsSameAction many a b = a ≡ b

-- what a thread does with a step
abbrev pub IsSameDid : ℕ → Did → Did → Type 0
IsSameDid many (did.Acted a x) (did.Acted b y) = IsSameAction many a b × (x ≡ y)
IsSameDid many did.Waits did.Waits = Unit {0}
IsSameDid many did.Idle did.Idle = Unit {0}
IsSameDid many d e = ⊥

-- ---- the law

abbrev pub calls_of : Program → ℕ → List ProgramCall
calls_of program u = calls_in (slice_get program.threads u)

-- where threads begin their calls again, after a schedule
abbrev pub place_again : File → Program → List ℕ → Configuration
place_again file program schedule = end file (for_ever (place_after file program [])) schedule

-- After the schedule both have one store, and each thread does the same with its next step.
pub record IsAsWritten (file : File) (program : Program) (k : ℕ) (schedule : List ℕ) : Type 0 where
  pub store : (source_run file (program_written k program) schedule).store ≡ (place_again file program schedule).store
  pub did : (u : ℕ) → IsSameDid (length (calls_of program u))
      (step file (program_written k program) (source_run file (program_written k program) schedule) u).did
      (stride file (place_again file program schedule) u).did

-- so it is while the calls that are written suffice
abbrev pub RoundsAreWritten : Type 0
RoundsAreWritten =
    (file : File) (program : Program) (k : ℕ) (schedule : List ℕ) → length schedule + 1 < k →
    IsAsWritten file program k schedule
