-- What the loop `row` of `numbers_of_rows` in src/numbers.rt keeps.

use Rattle.std.proofs.Common.{map, string_bytes, take}
use Rattle.ls_transitions.specs.Tables.{Keeps}
use Rattle.ls_page.specs.Numbers.{AreNumbers, texts_in}
use Rattle.ls_page.proofs.numbers.numbers_of_rows.Given as goal

abbrev pub invariant-loop-row : goal.invariant-loop-row
invariant-loop-row l = record {
  numbers : AreNumbers (texts_in l.table) l.numbers.items (map (λ r. string_bytes r.words) (take l.row-index l.rows));
  keeps : Keeps (texts_in l.fn.table) (texts_in l.table);
}
