-- What the loop `at` of `search` in src/searching.rt keeps, and why the loop ends.

use Rattle.std.proofs.Common.{◌≡◌, ◌-◌, false}
use Rattle.ls_checked.specs.Plain.{plain_file}
use Rattle.ls_checked.specs.PlainProgram.{plain_program}
use Rattle.ls_serial_search.specs.Open.{HasLongCall}
use Rattle.ls_serial_search.specs.Parked.{AreParked}
use Rattle.ls_serial_search.specs.Tree.{IsTree}
use Rattle.ls_serial_search.proofs.Gone.{IsGone}
use Rattle.ls_serial_search.proofs.searching.search.Given as goal

abbrev pub invariant-loop-at : goal.invariant-loop-at
invariant-loop-at l = record {
  gone : IsGone (plain_file l.task.file.now) (plain_program l.task.program.now) l.orders.schedules.items l.at
      l.complete;
  long : l.complete ≡ false →
      HasLongCall (plain_file l.task.file.now) (plain_program l.task.program.now) l.task.most_steps;
  tree : IsTree (plain_file l.task.file.now) (plain_program l.task.program.now) l.orders.schedules.items l.at 0;
  parked : AreParked (plain_file l.task.file.now) (plain_program l.task.program.now) l.orders.schedules.items
      l.orders.runs.items;
}

abbrev pub decreases-loop-at : goal.decreases-loop-at
decreases-loop-at l = l.most_orders - l.at
