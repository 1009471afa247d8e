-- What the loop `at` of `number_of` in src/numbering.rt keeps.

use Rattle.std.proofs.Common.{take}
use Rattle.ls_history_numbers.specs.Numbers.{AreNumbered, IsOf, Keeps}
use Rattle.ls_history_numbers.proofs.numbering.number_of.Given as goal

abbrev pub invariant-loop-at : goal.invariant-loop-at
invariant-loop-at l = record {
  numbered : AreNumbered l.all.items;
  is : IsOf l.all.items l.number (take l.at l.history);
  keeps : Keeps l.fn.all.items l.all.items;
}
