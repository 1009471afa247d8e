-- What the rows of an exploration on a machine tell.
use Rattle.std.specs.Prelude.{◌≡◌, ◌≤◌, ℕ, Bool, true, false, List, IsSorted}
use Rattle.ls_checked.specs.CheckedTree.{File}
use Rattle.ls_checked.specs.CheckedProgram.{Program}
use Rattle.ls_explore.specs.declared.rows.Ending.TheVariants.{NotSeen}
use Rattle.ls_explore.specs.Rows.{AreApart, NoneEnds, StandAlone, TellStates, Told, row_order}
use Rattle.ls_explore.specs.Tellings.{AllFit, AreFull, IsNarrow, TellAll, TellTruth, TellWhole}

-- Rows that tell the truth of schedules that fit so many cells, the shortest schedule first, no two with one history.
-- So many states were kept, at most the limit. If the rows are complete, they tell of all schedules that fit, and it
-- was seen how each row ends; if they are roomy too, of all schedules. If they aren't roomy, some schedule doesn't fit.
-- If they are cut, as many states were kept as may be.
pub record TellMachine (file : File) (program : Program) (cells limit k : ℕ) (rows : List Told) (kept : ℕ)
    (complete roomy : Bool) : Type 0 where
  pub truth : TellTruth file program k rows
  pub fits : AllFit file program cells k rows
  pub full : AreFull file program cells k rows
  pub states : TellStates file program k rows kept
  pub few : kept ≤ limit
  pub cut : complete ≡ false → kept ≡ limit
  pub all : complete ≡ true → TellAll file program cells rows
  pub whole : complete ≡ true → roomy ≡ true → TellWhole file program rows
  pub narrow : roomy ≡ false → IsNarrow file program cells
  pub seen : complete ≡ true → NoneEnds NotSeen rows
  pub alone : StandAlone rows
  pub apart : AreApart rows
  pub order : IsSorted row_order rows
