-- What is found of all schedules of an image: on a machine with so many cells, or by its source.
use Rattle.std.specs.Prelude.{◌≡◌, ◌≤◌, ℕ, Bool, true, false, List, Option, None, Some, IsSorted}
use Rattle.ls_checked.specs.CheckedTree.{File}
use Rattle.ls_checked.specs.CheckedProgram.{Program}
use Rattle.ls_code.specs.Code.{Code}
use Rattle.ls_machine.specs.Room.{AreBadCells}
use Rattle.ls_image.specs.Images.{code_of_image}
use Rattle.ls_image.specs.declared.image.Image.{Image}
use Rattle.ls_search.specs.Verdicts.{IsCut}
use Rattle.ls_translation.specs.Texts.{file_of, program_of}
use Rattle.ls_explore.specs.Rows.{AreApart, TellStates, Told, row_order}
use Rattle.ls_explore.specs.Faults.{AreBadStates, AreGood, StaysSource}
use Rattle.ls_explore.specs.Settings.{GoesOnFor, StopsAt}
use Rattle.ls_explore.specs.Machines.{TellMachine}
use Rattle.ls_explore.specs.Sources.{TellSource}
use Rattle.ls_explore.specs.Tellings.{TellTruth, TellWhole}
use Rattle.ls_explore.specs.declared.images.ImageExploration.{ImageExploration}
use Rattle.ls_explore.specs.declared.fault.ExploreFault.{ExploreFault}
use Rattle.ls_explore.specs.declared.fault.ExploreFault.TheVariants.{Memory, BadCells, BadStates, SetupEndless}
use Rattle.ls_explore.specs.declared.fault.ExploreFault.TheVariants.{Setup}

-- where a number of cells is asked for, the machine can have so many
abbrev pub HasGoodCells : Code → Option ℕ → Type 0
HasGoodCells code None = Unit {0}
HasGoodCells code (Some cells) = ¬ AreBadCells code.names cells

-- and so many states may be kept
pub record AreGoodFor (code : Code) (count : Option ℕ) (limit : ℕ) : Type 0 where
  pub cells : HasGoodCells code count
  pub states : ¬ AreBadStates limit

-- Rows of a machine tell of the schedules that fit its cells, and rows of the source of all.
abbrev pub TellBy : Option ℕ → File → Program → ℕ → ℕ → List Told → ℕ → Bool → Bool → Type 0
TellBy None file program limit k rows kept complete roomy =
    TellSource file program limit k rows kept complete × (roomy ≡ true)
TellBy (Some cells) file program limit k rows kept complete roomy =
    TellMachine file program cells limit k rows kept complete roomy

-- the rows that are found
pub record IsFound (i : Image) (count : Option ℕ) (limit : ℕ) (e : ImageExploration) : Type 0 where
  pub good : AreGoodFor (code_of_image i) count limit
  pub truth : TellTruth (file_of i) (program_of i) e.setup e.rows.items
  pub states : TellStates (file_of i) (program_of i) e.setup e.rows.items e.states
  pub few : e.states ≤ limit
  pub cut : e.complete ≡ false → IsCut (file_of i) (program_of i) limit e.setup e.states
  pub by : TellBy count (file_of i) (program_of i) limit e.setup e.rows.items e.states e.complete e.roomy
  pub whole : e.complete ≡ true → e.roomy ≡ true → TellWhole (file_of i) (program_of i) e.rows.items
  pub apart : AreApart e.rows.items
  pub order : IsSorted row_order e.rows.items

-- Why none are found. Bad cells are named first, then a bad number of states. Cells are bad, and a setup isn't
-- translated, only where a number of cells is asked for.
abbrev pub IsRefused : Image → Option ℕ → ℕ → ExploreFault → Type 0
IsRefused i count limit Memory = Unit {0}
IsRefused i count limit BadCells =
    (cells : ℕ) × (count ≡ Some cells) × AreBadCells (code_of_image i).names cells
IsRefused i count limit BadStates = HasGoodCells (code_of_image i) count × AreBadStates limit
IsRefused i count limit SetupEndless =
    AreGoodFor (code_of_image i) count limit × GoesOnFor (file_of i) (program_of i) 100001
IsRefused i count limit (Setup f) =
    (cells : ℕ) × (count ≡ Some cells) × AreGood (code_of_image i) cells limit
    × (k : ℕ) × StopsAt (file_of i) (program_of i) k
    × StaysSource (file_of i) (program_of i) (code_of_image i) cells k f
