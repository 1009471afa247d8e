-- What the loop `number` of `chosen_rows` in src/telling.rt keeps.

use Rattle.std.proofs.Common.{map}
use Rattle.ls_source_rows.proofs.Choosing.{AreRows}
use Rattle.ls_source_rows.proofs.telling.chosen_rows.Given as goal

abbrev pub invariant-loop-number : goal.invariant-loop-number
invariant-loop-number l =
    AreRows (map (λ v. v.items) l.found.histories.now) l.found.nodes.now l.found.seen.now l.choices l.rows.items
    l.number
