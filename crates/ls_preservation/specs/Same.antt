-- Code is the same as its source.
use Rattle.std.specs.Prelude.{◌≡◌, ℕ, ◌+◌, ◌≤◌, List, [], ◌∷◌, length}
use Rattle.ls_code.specs.Limits.{most_cells}
use Rattle.ls_checked.specs.CheckedTree.{File}
use Rattle.ls_checked.specs.CheckedProgram.{Program}
use Rattle.ls_meaning.specs.Store.{Thing, Object, LockOf, Markable, Array}
use Rattle.ls_meaning.specs.Runs.{source_run, source_trace, source_history}
use Rattle.ls_code.specs.Code.{Code}
use Rattle.ls_code.specs.Machine.{loaded, machine_trace, machine_history}
use Rattle.ls_preservation.specs.InWords.{births, numbered, ArePlaces, Agree}
use Rattle.ls_preservation.specs.Threads.{object_cells}
use Rattle.ls_preservation.specs.Translations.{to_source, to_machine}

-- the cells of a thing: an object has 1 and its fields, a lock 1, a markable 1, an array 1 and its items
abbrev pub size_of : Thing → ℕ
size_of (Object monitor fields) = object_cells (length fields)
size_of (LockOf hold) = 1
size_of (Markable pair) = 1
size_of (Array size items) = size + 1

abbrev pub total : List Thing → ℕ
total [] = 0
total (o ∷ os) = size_of o + total os

-- there is room in this many cells for the setup names and for all that a schedule makes
abbrev pub Fits : File → Program → ℕ → List ℕ → Type 0
Fits file program cells schedule = length program.names + total (source_run file program schedule).store.things ≤ cells

-- a number of cells with which a machine can be made of code
pub record IsCells (code : Code) (cells : ℕ) : Type 0 where
  pub some : 1 ≤ cells
  pub most : cells ≤ most_cells
  pub names : code.names ≤ cells

-- A schedule of the machine with this many cells, and a schedule of the source, have the same outcome. The actions are
-- the same, in order and with their answers; those of the machine are in words. The events are the same, with the
-- values that calls return. The makings have answered different addresses, and none of these is 0. So a word names one
-- object.
pub record Alike (file : File) (program : Program) (code : Code) (cells : ℕ) (of_machine of_source : List ℕ) : Type 0
  where
    pub traces : Agree (machine_trace (loaded code cells) of_machine) (source_trace file program of_source)
    pub places : ArePlaces (length (births (machine_trace (loaded code cells) of_machine)))
        (numbered (births (machine_trace (loaded code cells) of_machine)))
    pub histories : machine_history code cells of_machine ≡ source_history file program of_source

-- For each number of cells: each schedule of instructions has its schedule of source steps. Each schedule of source
-- steps that fits has its schedule of instructions.
pub record Same (file : File) (program : Program) (code : Code) : Type 0 where
  pub threads : length code.starts ≡ length program.threads
  pub names : code.names ≡ length program.names
  pub back : (cells : ℕ) → IsCells code cells → (schedule : List ℕ) →
      Alike file program code cells schedule (to_source code cells schedule)
  pub forth : (cells : ℕ) → IsCells code cells → (schedule : List ℕ) → Fits file program cells schedule →
      Alike file program code cells (to_machine file program code cells schedule) schedule
