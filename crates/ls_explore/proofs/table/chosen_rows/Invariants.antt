-- What the loop `number` of `chosen_rows` in src/table.rt keeps.

use Rattle.std.proofs.Common.{◌≡◌}
use Rattle.ls_explore.specs.Searches.{paths_of}
use Rattle.ls_explore.specs.Walks.{root_of}
use Rattle.ls_explore.proofs.Choosing.{AreRows}
use Rattle.ls_explore.proofs.table.chosen_rows.Given as goal

abbrev pub invariant-loop-number : goal.invariant-loop-number
invariant-loop-number l =
    AreRows l.ground.most (root_of l.fn.walker l.ground.setup.now) (paths_of l.found.paths.items) l.found.seen.items
    l.choices l.rows.items l.number
    × (l.walker.code ≡ l.fn.walker.code)
    × (l.walker.cells.limit ≡ l.fn.walker.cells.limit)
