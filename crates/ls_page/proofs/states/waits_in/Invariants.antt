-- What the loop `row` of `waits_in` in src/states.rt keeps.

use Rattle.std.proofs.Common.{◌≡◌, drop, map}
use Rattle.ls_choices.specs.Seen.{row_of}
use Rattle.ls_page.specs.States.{waits_in}
use Rattle.ls_page.proofs.states.waits_in.Given as goal

abbrev pub invariant-loop-row : goal.invariant-loop-row
invariant-loop-row l = waits_in (map row_of (drop l.row-index l.rows)) ≡ waits_in (map row_of l.rows)
