-- What the loop `row` of `numbers_of_outcomes` in src/numbers.rt keeps.

use Rattle.std.proofs.Common.{take}
use Rattle.ls_checked.specs.PlainProgram.{plain_program}
use Rattle.ls_transitions.specs.Tables.{Keeps}
use Rattle.ls_page.specs.Numbers.{AreAllNumbers, lines_of_ends, numbers_in, texts_in}
use Rattle.ls_page.proofs.numbers.numbers_of_outcomes.Given as goal

abbrev pub invariant-loop-row : goal.invariant-loop-row
invariant-loop-row l = record {
  numbers : AreAllNumbers (texts_in l.table) (numbers_in l.numbers.items)
      (lines_of_ends (plain_program l.program) (take l.row-index l.rows));
  keeps : Keeps (texts_in l.fn.table) (texts_in l.table);
}
