-- What the loop `task` of `states_of` in src/states.rt keeps, and why the loop ends.

use Rattle.std.proofs.Common.{◌≡◌, ◌-◌, true, length}
use Rattle.ls_checked.specs.Plain.{plain_file}
use Rattle.ls_checked.specs.PlainProgram.{plain_program}
use Rattle.ls_serial_search.specs.Open.{HasLongCall}
use Rattle.ls_serial_search.specs.Tree.{IsTree}
use Rattle.ls_automaton.specs.Spots.{schedules_of}
use Rattle.ls_automaton.proofs.Fated.{AreFated}
use Rattle.ls_automaton.proofs.Filled.{AreFilled}
use Rattle.ls_automaton.proofs.states.states_of.Given as goal

abbrev pub invariant-loop-task : goal.invariant-loop-task
invariant-loop-task l = record {
  filled : AreFilled (plain_file l.task.file.now) (plain_program l.task.program.now) l.task.most_steps l.goes_on
      l.spots.list.items l.rows.items;
  long : l.goes_on ≡ true →
      HasLongCall (plain_file l.task.file.now) (plain_program l.task.program.now) l.task.most_steps;
  fated : AreFated (plain_file l.task.file.now) (plain_program l.task.program.now) l.task.most_steps
      l.spots.list.items l.fates.items;
  as_many : length l.fates.items ≡ length l.rows.items;
  tree : IsTree (plain_file l.task.file.now) (plain_program l.task.program.now) (schedules_of l.spots.list.items)
      (length l.rows.items) 0;
}

abbrev pub decreases-loop-task : goal.decreases-loop-task
decreases-loop-task l = l.most_states - length l.rows.items
