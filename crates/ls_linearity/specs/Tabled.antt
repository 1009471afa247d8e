-- Which table is that of a program.
use Rattle.std.specs.Prelude.{◌≡◌, ℕ, true, List}
use Rattle.std.specs.declared.vec.Vec.{Vec}
use Rattle.std.specs.declared.alloc.Global.{Global}
use Rattle.ls_checked.specs.CheckedTree.{File}
use Rattle.ls_checked.specs.CheckedProgram.{Program}
use Rattle.ls_serial_search.specs.Open.{HasLongCall}
use Rattle.ls_serial_search.specs.declared.telling.Bounds.{Bounds}
use Rattle.ls_automaton.specs.declared.outcome.Outcome.{Outcome}
use Rattle.ls_automaton.specs.Merged.{AreMerged}
use Rattle.ls_automaton.specs.Tables.{AreOutcomes}
use Rattle.ls_linearity.specs.declared.table.SerialTable.{SerialTable}

-- a table has at most so many states where histories are judged one by one
abbrev pub most_states : ℕ
most_states = 32000

-- In its states calls do what they do in the program, where states that do the same may be one. If it says that a call
-- goes on, one does.
pub record IsTableOf (file : File) (program : Program) (bounds : Bounds) (t : SerialTable) : Type 0 where
  pub outcomes : List (Vec Outcome Global)
  pub are : AreOutcomes file program bounds.steps t.goes_on outcomes
  pub merged : AreMerged outcomes t.rows.items
  pub long : t.goes_on ≡ true → HasLongCall file program bounds.steps
