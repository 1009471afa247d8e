-- What the loop `at` of `close` in src/searching.rt keeps.

use Rattle.std.proofs.Common.{◌≡◌, ◌≤◌, length}
use Rattle.ls_explore.specs.Searches.{AreDistinct, AreSaved, IsClosedTo, IsSound, paths_of}
use Rattle.ls_explore.specs.Walks.{root_of}
use Rattle.ls_explore.specs.Watching.{GoesOn}
use Rattle.ls_explore.proofs.Loops.{AreKept}
use Rattle.ls_explore.proofs.searching.close.Given as goal

abbrev pub invariant-loop-at : goal.invariant-loop-at
invariant-loop-at g l =
    AreKept l.fn.walker l.fn.other l.walker l.other
    × (length l.nodes.seen.items ≡ l.at)
    × IsSound l.ground.most l.ground.threads (root_of l.fn.walker l.ground.setup.now) (paths_of l.nodes.paths.items)
    l.nodes.seen.items
    × IsClosedTo l.ground.most l.ground.threads (root_of l.fn.walker l.ground.setup.now) (paths_of l.nodes.paths.items)
    l.at 0
    × AreSaved l.ground.most (root_of l.fn.walker l.ground.setup.now) (paths_of l.nodes.paths.items) l.nodes.saved.items
    × AreDistinct (paths_of l.nodes.paths.items) l.at 0
    × GoesOn g.W.Watch.Since l.fn.watch l.watch
    × (length l.fn.nodes.paths.items ≤ l.ground.limit → length l.nodes.paths.items ≤ l.ground.limit)
