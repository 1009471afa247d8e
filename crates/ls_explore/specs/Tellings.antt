-- What the rows of an image tell.
use Rattle.std.specs.Prelude.{◌≡◌, ℕ, List, [], ◌∷◌, ◌++◌, replicate, Contains}
use Rattle.ls_checked.specs.CheckedTree.{File}
use Rattle.ls_checked.specs.CheckedProgram.{Program}
use Rattle.ls_meaning.specs.Runs.{source_run, source_history}
use Rattle.ls_preservation.specs.Same.{Fits}
use Rattle.ls_meaning.specs.Still.{IsOver}
use Rattle.ls_explore.specs.Room.{IsFull}
use Rattle.ls_explore.specs.declared.rows.Ending.TheVariants.{GoesOn, OutOfCells, Over}
use Rattle.ls_explore.specs.Rows.{ActAll, HasEnd, IsToldBy, Told}

-- the schedule of a row: so many steps of the setup, and then one of each thread of its path
abbrev pub schedule_of : ℕ → Told → List ℕ
schedule_of k r = replicate k 0 ++ r.path

-- Each row's history is that of its schedule, each of whose steps acts; after the schedule of a row that is over no
-- thread acts, and after that of one that goes on some thread does.
pub record TellTruth (file : File) (program : Program) (k : ℕ) (rows : List Told) : Type 0 where
  pub told : (r : Told) → Contains rows r → r.history ≡ source_history file program (schedule_of k r)
  pub acts : (r : Told) → Contains rows r → ActAll file program (schedule_of k r)
  pub goes : (r : Told) →
      Contains rows r →
      r.ending ≡ GoesOn →
      (t : ℕ) × ActAll file program (schedule_of k r ++ t ∷ [])
  pub over : (r : Told) →
      Contains rows r →
      r.ending ≡ Over →
      IsOver file program (source_run file program (schedule_of k r))

-- the schedule of each row fits the cells
abbrev pub AllFit : File → Program → ℕ → ℕ → List Told → Type 0
AllFit file program cells k rows = (r : Told) → Contains rows r → Fits file program cells (schedule_of k r)

-- after the schedule of a row that is out of cells a thread's next step acts, and none acts for which there is room
abbrev pub AreFull : File → Program → ℕ → ℕ → List Told → Type 0
AreFull file program cells k rows =
    (r : Told) → Contains rows r → r.ending ≡ OutOfCells → IsFull file program cells (schedule_of k r)

-- some schedule doesn't fit the cells
abbrev pub IsNarrow : File → Program → ℕ → Type 0
IsNarrow file program cells = (schedule : List ℕ) × ¬ Fits file program cells schedule

-- The history of each schedule of source steps that fits the cells, of any length, is the beginning of a row's; and
-- that of one after which no thread acts is that of a row that ends.
pub record TellAll (file : File) (program : Program) (cells : ℕ) (rows : List Told) : Type 0 where
  pub begun : (schedule : List ℕ) →
      Fits file program cells schedule →
      IsToldBy rows (source_history file program schedule)
  pub ended : (schedule : List ℕ) →
      Fits file program cells schedule →
      IsOver file program (source_run file program schedule) →
      HasEnd rows (source_history file program schedule)

-- The same of each schedule of source steps, whether it fits the cells or not.
pub record TellWhole (file : File) (program : Program) (rows : List Told) : Type 0 where
  pub begun : (schedule : List ℕ) → IsToldBy rows (source_history file program schedule)
  pub ended : (schedule : List ℕ) →
      IsOver file program (source_run file program schedule) →
      HasEnd rows (source_history file program schedule)
