-- Schedules after which no thread of the source acts.
use Rattle.std.specs.Prelude.{◌≡◌, ℕ, ◌+◌, ◌<◌, List, ◌++◌, length, map, replicate, None, Contains, false, true}
use Rattle.std.specs.Prelude.{slice_get}
use Rattle.ls_events.specs.declared.value.Value.{Value}
use Rattle.ls_checked.specs.CheckedTree.{File}
use Rattle.ls_checked.specs.CheckedProgram.{Program}
use Rattle.ls_meaning.specs.Steps.{Entry}
use Rattle.ls_meaning.specs.Runs.{source_run, source_trace, source_history}
use Rattle.ls_meaning.specs.Still.{IsOver}
use Rattle.ls_code.specs.Code.{Code}
use Rattle.ls_code.specs.Machine.{Machine, loaded, machine_run, setup_ended}
use Rattle.ls_code.specs.declared.step.Did.{Did as MachineDid}
use Rattle.ls_code.specs.declared.step.Did.TheVariants as machine_did
use Rattle.ls_preservation.specs.Same.{Fits, IsCells}
use Rattle.ls_preservation.specs.Translations.{to_source, most_silent}
use Rattle.ls_preservation.specs.Acting.{ActsInTime, first_did}
use Rattle.ls_explore.specs.Bursts.{ActsAlong, IsClosed, burst}
use Rattle.ls_explore.specs.Explored.{HasHistories, IsRoomy, IsSetUp}

-- the acting steps of a schedule of instructions act in the source too
abbrev pub HasSteps : File → Program → Code → ℕ → Type 0
HasSteps file program code cells =
    (steps : List ℕ) → to_source code cells steps ≡ map (λ (e : Entry Value). e.thread)
    (source_trace file program (to_source code cells steps))

-- a machine of the list in which no thread acts, with this history
pub record IsEnd (n threads : ℕ) (file : File) (program : Program) (machines : List Machine) (schedule : List ℕ) : Type
    0 where
  pub machine : Machine
  pub there : Contains machines machine
  pub same : machine.history ≡ source_history file program schedule
  pub still : (t : ℕ) → t < threads → burst n machine t ≡ None

-- Under the premises of `Covers`: each schedule that fits, and after which no thread of the source acts, has the
-- history of a machine of the list
-- in which no thread acts.
abbrev pub Ends : Type 0
Ends =
    (file : File) (program : Program) (code : Code) (cells k : ℕ) (root : Machine) (machines : List Machine) →
    IsCells code cells → ActsInTime file program code →
    HasHistories file program code cells → HasSteps file program code cells → IsSetUp file program code cells k root →
    Contains machines root →
    IsClosed (most_silent code + 1) (length program.threads) machines → (schedule : List ℕ) →
    Fits file program cells schedule →
    IsOver file program (source_run file program schedule) →
    IsEnd (most_silent code + 1) (length program.threads) file program machines schedule

-- Where none of the machines would stop, so it is of each schedule after which no thread of the source acts.
abbrev pub EndsWhole : Type 0
EndsWhole =
    (file : File) (program : Program) (code : Code) (cells k : ℕ) (root : Machine) (machines : List Machine) →
    IsCells code cells → ActsInTime file program code →
    HasHistories file program code cells → HasSteps file program code cells → IsSetUp file program code cells k root →
    Contains machines root →
    IsClosed (most_silent code + 1) (length program.threads) machines →
    IsRoomy (most_silent code + 1) (length program.threads) machines →
    (schedule : List ℕ) → IsOver file program (source_run file program schedule) →
    IsEnd (most_silent code + 1) (length program.threads) file program machines schedule

abbrev pub IsQuiet : MachineDid → Type 0
IsQuiet (machine_did.Acted action answer) = ⊥
IsQuiet machine_did.Stopped = ⊥
IsQuiet machine_did.Silent = Unit {0}
IsQuiet machine_did.Waits = Unit {0}
IsQuiet machine_did.Idle = Unit {0}

-- each of so many threads is silent, or stands still, for as long as one may be that acts
abbrev pub AreQuiet : ℕ → ℕ → Machine → Type 0
AreQuiet n threads m = (t : ℕ) → t < threads → IsQuiet (first_did n m t)

-- If the machine after some steps hasn't stopped, its setup has ended, and each thread is silent, or stands still,
-- for as long as one may be that acts: no thread of the source acts.
abbrev pub StandsStill : Type 0
StandsStill =
    (file : File) (program : Program) (code : Code) (cells : ℕ) → IsCells code cells → ActsInTime file program code →
    (steps : List ℕ) →
    (machine_run (loaded code cells) steps).stopped ≡ false →
    setup_ended (slice_get (machine_run (loaded code cells) steps).threads 0) ≡ true →
    AreQuiet (most_silent code + 1) (length program.threads) (machine_run (loaded code cells) steps) →
    IsOver file program (source_run file program (to_source code cells steps))

-- Where threads lead, from the machine whose setup has ended, to one whose threads are all quiet: no thread of the
-- source acts after the setup's steps
-- and one step of each of these threads.
abbrev pub StandsStillAlong : Type 0
StandsStillAlong =
    (file : File) (program : Program) (code : Code) (cells k : ℕ) (root m : Machine) (path : List ℕ) →
    IsCells code cells →
    ActsInTime file program code → IsSetUp file program code cells k root →
    ActsAlong (most_silent code + 1) root path m →
    AreQuiet (most_silent code + 1) (length program.threads) m →
    IsOver file program (source_run file program (replicate k 0 ++ path))
