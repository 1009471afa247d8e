-- What the loop `row` of `states_after` in src/numbers.rt keeps.

use Rattle.std.proofs.Common.{◌≡◌, take}
use Rattle.ls_page.specs.Numbers.{after_rows, numbers_in}
use Rattle.ls_page.proofs.numbers.states_after.Given as goal

abbrev pub invariant-loop-row : goal.invariant-loop-row
invariant-loop-row l = numbers_in l.after.items ≡ after_rows (take l.row-index l.rows)
