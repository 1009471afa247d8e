-- What the loop `number` of `rows_of_all` in src/rows.rt keeps.

use Rattle.std.proofs.Common.{◌≡◌, length, map, true}
use Rattle.ls_labels.specs.Names.{names_of}
use Rattle.ls_transitions.specs.Seen.{table_of}
use Rattle.ls_transitions.specs.Tables.{Grows}
use Rattle.ls_choices.specs.Points.{standing_at}
use Rattle.ls_choices.specs.Rows.{AreCut, HaveRows, rows_of_threads}
use Rattle.ls_choices.specs.Seen.{row_of}
use Rattle.ls_choices.specs.StandingRows.{AreStandingRowsOfAll}
use Rattle.ls_choices.proofs.rows.rows_of_all.Given as goal

abbrev pub invariant-loop-number : goal.invariant-loop-number
invariant-loop-number l = record {
  grows : Grows (table_of l.fn.transitions) (table_of l.transitions);
  many : length l.all.items ≡ l.number;
  rows : AreStandingRowsOfAll (names_of l.scene.names)
      (map (standing_at (table_of l.fn.transitions)) l.scene.points.now) (map (λ r. map row_of r.items) l.all.items);
  full : AreCut (l.scene.full ≡ true) (map (λ r. map row_of r.items) l.all.items);
  threads : HaveRows (rows_of_threads (names_of l.scene.names).program) (map (λ r. map row_of r.items) l.all.items);
}
