-- What the loop `at` of `number_paths` in src/table.rt keeps.

use Rattle.std.proofs.Common.{◌≡◌, ℕ, List, Some, length}
use Rattle.std.specs.Prelude.{slice_get}
use Rattle.ls_history_numbers.specs.Numbers.{AreNumbered, IsOf}
use Rattle.ls_explore.specs.Searches.{paths_of}
use Rattle.ls_explore.specs.Walks.{root_of, walked}
use Rattle.ls_explore.proofs.table.number_paths.Given as goal

abbrev pub invariant-loop-at : goal.invariant-loop-at
invariant-loop-at l =
    (length l.numbers.items ≡ l.at)
    × ((i n : ℕ) (path : List ℕ) → slice_get l.numbers.items i ≡ Some n →
    slice_get (paths_of l.found.paths.items) i ≡ Some path →
    IsOf l.all.items n (walked l.ground.most (root_of l.fn.walker l.ground.setup.now) path).history)
    × AreNumbered l.all.items
    × (l.walker.code ≡ l.fn.walker.code)
    × (l.walker.cells.limit ≡ l.fn.walker.cells.limit)
