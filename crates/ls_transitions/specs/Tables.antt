-- Stores and works by number.
use Rattle.std.specs.Prelude.{◌≡◌, ℕ, List, Some, slice_get}
use Rattle.ls_checked.specs.CheckedTree.{File}
use Rattle.ls_checked.specs.CheckedProgram.{Program}
use Rattle.ls_meaning.specs.Course.{Answers}
use Rattle.ls_meaning.specs.Store.{Store}
use Rattle.ls_meaning.specs.Threads.{Next}
use Rattle.ls_source.specs.Calls.{Thread}
use Rattle.ls_source.specs.Kept.{means}

-- the stores and the works of a program's threads that have numbers; a work is what a thread still has to do
pub record Table : Type 0 where
  pub file : File
  pub program : Program
  pub stores : List Store
  pub works : List Thread

-- what a thread with that work does next after these answers
abbrev pub goes_on : Table → ℕ → Answers → Next
goes_on t work later = means t.file t.program (slice_get t.works work) later

module _ {A : Type 0} where
  -- each number keeps what it stands for
  abbrev pub Keeps : List A → List A → Type 0
  Keeps old new = (n : ℕ) (x : A) → slice_get old n ≡ Some x → slice_get new n ≡ Some x

-- the same of the numbers of a table
pub record Grows (old new : Table) : Type 0 where
  pub file : new.file ≡ old.file
  pub program : new.program ≡ old.program
  pub stores : Keeps old.stores new.stores
  pub works : Keeps old.works new.works
