-- What the loop `outcome` of `numbers_of_ends` in src/numbers.rt keeps.

use Rattle.std.proofs.Common.{take}
use Rattle.ls_checked.specs.PlainProgram.{plain_program}
use Rattle.ls_transitions.specs.Tables.{Keeps}
use Rattle.ls_page.specs.Numbers.{AreNumbers, end_lines, texts_in}
use Rattle.ls_page.proofs.numbers.numbers_of_ends.Given as goal

abbrev pub invariant-loop-outcome : goal.invariant-loop-outcome
invariant-loop-outcome l = record {
  numbers : AreNumbers (texts_in l.table) l.numbers.items
      (end_lines (plain_program l.program) (take l.outcome-index l.row));
  keeps : Keeps (texts_in l.fn.table) (texts_in l.table);
}
