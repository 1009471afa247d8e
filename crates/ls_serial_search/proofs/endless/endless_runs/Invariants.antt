-- What the loop `at` of `endless_runs` in src/endless.rt keeps.

use Rattle.std.proofs.Common.{◌≡◌, ◌⊎◌, true, false}
use Rattle.ls_checked.specs.Plain.{plain_file}
use Rattle.ls_checked.specs.PlainProgram.{plain_program}
use Rattle.ls_serial_search.specs.Histories.{lists_of}
use Rattle.ls_serial_search.specs.Open.{HasLongCall, HasManyOrders}
use Rattle.ls_serial_search.specs.Endless.{AreEndlessRuns}
use Rattle.ls_serial_search.proofs.NeverEnding.{AreTried}
use Rattle.ls_serial_search.proofs.endless.endless_runs.Given as goal

abbrev pub invariant-loop-at : goal.invariant-loop-at
invariant-loop-at l = record {
  endless : AreEndlessRuns (plain_file l.file) (plain_program l.program) (lists_of l.runs.items);
  known : l.complete ≡ true → l.known.complete ≡ true;
  why : l.complete ≡ false →
      HasManyOrders (plain_file l.file) (plain_program l.program) l.bounds.orders
      ⊎ HasLongCall (plain_file l.file) (plain_program l.program) l.bounds.steps;
  tried : l.complete ≡ true →
      AreTried (plain_file l.file) (plain_program l.program) l.known.orders.schedules.items (lists_of l.runs.items)
      l.at;
}
