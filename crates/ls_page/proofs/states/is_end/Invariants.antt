-- What the loop `row` of `is_end` in src/states.rt keeps.

use Rattle.std.proofs.Common.{◌≡◌, drop, map}
use Rattle.ls_choices.specs.Seen.{row_of}
use Rattle.ls_page.specs.States.{is_end}
use Rattle.ls_page.proofs.states.is_end.Given as goal

abbrev pub invariant-loop-row : goal.invariant-loop-row
invariant-loop-row l = is_end (map row_of (drop l.row-index l.rows)) ≡ is_end (map row_of l.rows)
