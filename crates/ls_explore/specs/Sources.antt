-- What the rows of an exploration of the source tell, and why there are none.
use Rattle.std.specs.Prelude.{◌≡◌, ◌≤◌, ℕ, Bool, true, false, List, IsSorted}
use Rattle.ls_checked.specs.CheckedTree.{File}
use Rattle.ls_checked.specs.CheckedProgram.{Program}
use Rattle.ls_search.specs.Verdicts.{IsCut}
use Rattle.ls_source_rows.specs.declared.rows.Ending.{Ending as SourceEnding}
use Rattle.ls_source_rows.specs.declared.rows.Ending.TheVariants as source
use Rattle.ls_source_rows.specs.declared.rows.Row.{Row as SourceRow}
use Rattle.ls_explore.specs.declared.rows.Ending.{Ending}
use Rattle.ls_explore.specs.declared.rows.Ending.TheVariants as ending
use Rattle.ls_explore.specs.Rows.{AreApart, NoneEnds, StandAlone, TellStates, Told, row_order}
use Rattle.ls_explore.specs.Faults.{AreBadStates}
use Rattle.ls_explore.specs.Settings.{GoesOnFor}
use Rattle.ls_explore.specs.Tellings.{TellTruth, TellWhole}
use Rattle.ls_explore.specs.declared.fault.ExploreFault.{ExploreFault}
use Rattle.ls_explore.specs.declared.fault.ExploreFault.TheVariants.{Memory, BadCells, BadStates, SetupEndless}
use Rattle.ls_explore.specs.declared.fault.ExploreFault.TheVariants.{Setup}

-- ---- rows

-- no thread acts, whether one waits or not
abbrev pub ending_of : SourceEnding → Ending
ending_of source.Ended = ending.Over
ending_of source.Waiting = ending.Over
ending_of source.GoesOn = ending.GoesOn
ending_of source.NotSeen = ending.NotSeen

abbrev pub told_of : SourceRow → Told
told_of r = record { path = r.path.items; history = r.history.items; ending = ending_of r.ending }

-- Rows that tell the truth, the shortest schedule first, no two with one history. So many states were kept, at most
-- the limit. If the rows are complete, they tell of all schedules, and it was seen how each row ends. If they are cut,
-- as many states were kept as may be, or the states have over 4,194,304 objects together.
pub record TellSource (file : File) (program : Program) (limit k : ℕ) (rows : List Told) (kept : ℕ) (complete : Bool) :
    Type 0 where
  pub truth : TellTruth file program k rows
  pub states : TellStates file program k rows kept
  pub few : kept ≤ limit
  pub cut : complete ≡ false → IsCut file program limit k kept
  pub whole : complete ≡ true → TellWhole file program rows
  pub seen : complete ≡ true → NoneEnds ending.NotSeen rows
  pub cells : NoneEnds ending.OutOfCells rows
  pub alone : StandAlone rows
  pub apart : AreApart rows
  pub order : IsSorted row_order rows

-- ---- refusals

-- the number of states is good, and the setup goes on after 100,000 source steps
pub record IsSourceEndless (file : File) (program : Program) (limit : ℕ) : Type 0 where
  pub states : ¬ AreBadStates limit
  pub goes : GoesOnFor file program 100001

-- there is no machine whose cells are bad, or to which the setup isn't translated
abbrev pub IsOfSource : ExploreFault → Type 0
IsOfSource Memory = Unit {0}
IsOfSource BadStates = Unit {0}
IsOfSource SetupEndless = Unit {0}
IsOfSource BadCells = ⊥
IsOfSource (Setup f) = ⊥
