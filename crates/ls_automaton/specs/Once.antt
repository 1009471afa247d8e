-- No event stands twice in the history of a schedule.
use Rattle.std.specs.Prelude.{ℕ, List}
use Rattle.ls_checked.specs.CheckedTree.{File}
use Rattle.ls_checked.specs.CheckedProgram.{Program}
use Rattle.ls_meaning.specs.Runs.{source_history}
use Rattle.ls_linearizable.specs.Once.{AreOnce}

abbrev pub HistoriesAreOnce : Type 0
HistoriesAreOnce =
    (file : File) (program : Program) (schedule : List ℕ) → AreOnce (source_history file program schedule)
