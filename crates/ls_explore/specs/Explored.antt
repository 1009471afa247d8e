-- What a list of machines shows of all schedules of a source.
use Rattle.std.specs.Prelude.{◌≡◌, ℕ, ◌+◌, ◌<◌, true, false, List, ◌++◌, length, replicate}
use Rattle.std.specs.Prelude.{Contains, slice_get}
use Rattle.ls_events.specs.Beginnings.{IsBeginning}
use Rattle.ls_checked.specs.CheckedTree.{File}
use Rattle.ls_checked.specs.CheckedProgram.{Program}
use Rattle.ls_meaning.specs.Runs.{source_run, source_history}
use Rattle.ls_code.specs.Code.{Code}
use Rattle.ls_code.specs.Machine.{Machine, loaded, machine_run, machine_history, setup_ended}
use Rattle.ls_preservation.specs.Same.{Fits, IsCells}
use Rattle.ls_preservation.specs.Translations.{to_source, to_machine, has_setup_ended, most_silent}
use Rattle.ls_code.specs.declared.step.Did.TheVariants as did
use Rattle.ls_preservation.specs.Acting.{ActsInTime, first_did}
use Rattle.ls_preservation.specs.InTime.{EndsInTime}
use Rattle.ls_explore.specs.Bursts.{ActsAlong, IsClosed}

-- The machine after a schedule of its own in which the setup acts so many times, as it does in the source until it
-- ends, and not before that.
pub record IsSetUp (file : File) (program : Program) (code : Code) (cells k : ℕ) (root : Machine) : Type 0 where
  pub steps : List ℕ
  pub reached : root ≡ machine_run (loaded code cells) steps
  pub acting : to_source code cells steps ≡ replicate k 0
  pub goes : root.stopped ≡ false
  pub ready : setup_ended (slice_get root.threads 0) ≡ true
  pub ended : has_setup_ended file program (source_run file program (replicate k 0)) ≡ true
  pub before : (j : ℕ) → j < k → has_setup_ended file program (source_run file program (replicate j 0)) ≡ false

-- each schedule of instructions has the history of its acting steps
abbrev pub HasHistories : File → Program → Code → ℕ → Type 0
HasHistories file program code cells = (steps : List ℕ) → machine_history code cells steps ≡ source_history file program
    (to_source code cells steps)

-- the history of a schedule is a beginning of that of one of the machines
pub record IsShown (file : File) (program : Program) (machines : List Machine) (schedule : List ℕ) : Type 0 where
  pub machine : Machine
  pub there : Contains machines machine
  pub shows : IsBeginning (source_history file program schedule) machine.history

-- Where a list of machines has the one whose setup has ended and is closed under what each thread does until it acts,
-- it shows the history of
-- each schedule of source steps that fits, of any length.
abbrev pub Covers : Type 0
Covers =
    (file : File) (program : Program) (code : Code) (cells k : ℕ) (root : Machine) (machines : List Machine) →
    IsCells code cells → ActsInTime file program code →
    HasHistories file program code cells → IsSetUp file program code cells k root → Contains machines root →
    IsClosed (most_silent code + 1) (length program.threads) machines → (schedule : List ℕ) →
    Fits file program cells schedule →
    IsShown file program machines schedule

-- no thread of one of these machines would stop it for want of cells before it acts
abbrev pub IsRoomy : ℕ → ℕ → List Machine → Type 0
IsRoomy n threads machines = (m : Machine) (t : ℕ) → Contains machines m → t < threads → first_did n m t ≡ did.Stopped →
    ⊥

-- Where none of them would stop, it shows the history of each schedule whatever: so no schedule runs out of cells.
abbrev pub CoversWhole : Type 0
CoversWhole =
    (file : File) (program : Program) (code : Code) (cells k : ℕ) (root : Machine) (machines : List Machine) →
    IsCells code cells → ActsInTime file program code →
    HasHistories file program code cells → IsSetUp file program code cells k root → Contains machines root →
    IsClosed (most_silent code + 1) (length program.threads) machines →
    IsRoomy (most_silent code + 1) (length program.threads) machines →
    (schedule : List ℕ) → IsShown file program machines schedule

-- The machine to which threads lead from the one whose setup has ended has the history of the schedule of the setup's
-- source steps and then one step of
-- each of these threads.
abbrev pub LeadsAsSource : Type 0
LeadsAsSource =
    (file : File) (program : Program) (code : Code) (cells k n : ℕ) (root m : Machine) (path : List ℕ) →
    HasHistories file program code cells →
    IsSetUp file program code cells k root → ActsAlong n root path m →
    m.history ≡ source_history file program (replicate k 0 ++ path)

-- Where the setup's source ends with so many of its steps, and not before that, the machine's steps for them end its
-- setup: it has not stopped.
abbrev pub SetsUp : Type 0
SetsUp =
    (file : File) (program : Program) (code : Code) (cells k : ℕ) → IsCells code cells → ActsInTime file program code →
    EndsInTime file program code →
    0 < length code.starts → length code.starts ≡ length program.threads → Fits file program cells (replicate k 0) →
    has_setup_ended file program (source_run file program (replicate k 0)) ≡ true →
    ((j : ℕ) → j < k → has_setup_ended file program (source_run file program (replicate j 0)) ≡ false) →
    ((machine_run (loaded code cells) (to_machine file program code cells (replicate k 0))).stopped ≡ false)
    × (setup_ended
    (slice_get (machine_run (loaded code cells) (to_machine file program code cells (replicate k 0))).threads 0) ≡
    true)
