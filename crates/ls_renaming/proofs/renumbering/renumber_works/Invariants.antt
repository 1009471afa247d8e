-- What the loop `work` of `renumber_works` in src/renumbering.rt keeps.

use Rattle.std.proofs.Common.{◌≡◌, length}
use Rattle.ls_transitions.specs.Tables.{Grows}
use Rattle.ls_transitions.specs.Seen.{table_of}
use Rattle.ls_renaming.specs.Seen.{names_of}
use Rattle.ls_renaming.specs.Renumbered.{AreWorksThere}
use Rattle.ls_renaming.proofs.renumbering.renumber_works.Given as goal

abbrev pub invariant-loop-work : goal.invariant-loop-work
invariant-loop-work l = record {
  there : AreWorksThere (table_of l.transitions) (names_of l.both.names) l.works l.renumbered.items;
  width : length l.renumbered.items ≡ l.work-index;
  grows : Grows (table_of l.fn.transitions) (table_of l.transitions);
}
