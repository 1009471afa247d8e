-- What the loop `thread` of `row_of` in src/states.rt keeps.

use Rattle.std.proofs.Common.{◌≡◌, ℕ, Some, length, slice_get, true}
use Rattle.ls_checked.specs.Plain.{plain_file}
use Rattle.ls_checked.specs.PlainProgram.{plain_program}
use Rattle.ls_serial_search.specs.Open.{HasLongCall}
use Rattle.ls_serial_search.specs.Tree.{IsTree}
use Rattle.ls_automaton.specs.Fates.{AreFatesTo}
use Rattle.ls_automaton.specs.Spots.{schedules_of}
use Rattle.ls_automaton.proofs.Filled.{IsFilled}
use Rattle.ls_automaton.proofs.states.row_of.Given as goal

abbrev pub invariant-loop-thread : goal.invariant-loop-thread
invariant-loop-thread l = record {
  filled : IsFilled (plain_file l.task.file.now) (plain_program l.task.program.now) l.task.most_steps l.goes_on
      l.initial.spots.list.items l.spots.list.items l.steps l.thread l.outcomes.items;
  fates : AreFatesTo (plain_file l.task.file.now) (plain_program l.task.program.now) l.task.most_steps l.steps
      l.fates.items;
  as_many : l.thread ≡ length l.fates.items;
  long : l.goes_on ≡ true →
      HasLongCall (plain_file l.task.file.now) (plain_program l.task.program.now) l.task.most_steps;
  tree : (place : ℕ) → slice_get (schedules_of l.initial.spots.list.items) place ≡ Some l.steps →
      IsTree (plain_file l.task.file.now) (plain_program l.task.program.now) (schedules_of l.initial.spots.list.items)
      place 0 →
      IsTree (plain_file l.task.file.now) (plain_program l.task.program.now) (schedules_of l.spots.list.items) place
      l.thread;
}
