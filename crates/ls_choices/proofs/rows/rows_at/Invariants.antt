-- What the loop `thread` of `rows_at` in src/rows.rt keeps.

use Rattle.std.proofs.Common.{◌≡◌, length, map, Some, true}
use Rattle.std.specs.Prelude.{slice_get}
use Rattle.ls_labels.specs.Names.{names_of}
use Rattle.ls_transitions.specs.Seen.{table_of}
use Rattle.ls_transitions.specs.Tables.{Grows}
use Rattle.ls_choices.specs.Points.{standing_at}
use Rattle.ls_choices.specs.Rows.{AreRowsCut}
use Rattle.ls_choices.specs.Seen.{row_of}
use Rattle.ls_choices.specs.Standing.{Standing}
use Rattle.ls_choices.specs.StandingRows.{AreStandingRows}
use Rattle.ls_choices.proofs.rows.rows_at.Given as goal

abbrev pub invariant-loop-thread : goal.invariant-loop-thread
invariant-loop-thread l = record {
  grows : Grows (table_of l.fn.transitions) (table_of l.transitions);
  many : length l.rows.items ≡ l.thread;
  rows : (s : Standing) →
      slice_get (map (standing_at (table_of l.fn.transitions)) l.scene.points.now) l.number ≡ Some s →
      AreStandingRows (names_of l.scene.names) (map (standing_at (table_of l.fn.transitions)) l.scene.points.now) s
      (map row_of l.rows.items);
  full : AreRowsCut (l.scene.full ≡ true) (map row_of l.rows.items);
}
