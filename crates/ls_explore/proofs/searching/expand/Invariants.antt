-- What the loop `thread` of `expand` in src/searching.rt keeps.

use Rattle.std.proofs.Common.{◌≡◌, ◌≤◌, length}
use Rattle.ls_explore.specs.Searches.{AreDistinct, AreSaved, paths_of}
use Rattle.ls_explore.specs.Walks.{root_of}
use Rattle.ls_explore.proofs.Loops.{AreKept, IsOn}
use Rattle.ls_explore.proofs.searching.expand.Given as goal

abbrev pub invariant-loop-thread : goal.invariant-loop-thread
invariant-loop-thread l =
    AreKept l.fn.walker l.fn.other l.walker l.other
    × (l.nodes.seen.items ≡ l.fn.nodes.seen.items)
    × IsOn l.ground.most l.ground.threads (root_of l.fn.walker l.ground.setup.now) (paths_of l.nodes.paths.items)
    l.nodes.seen.items l.at l.thread l.seen
    × AreSaved l.ground.most (root_of l.fn.walker l.ground.setup.now) (paths_of l.nodes.paths.items) l.nodes.saved.items
    × AreDistinct (paths_of l.nodes.paths.items) l.at l.thread
    × (length l.fn.nodes.paths.items ≤ l.ground.limit → length l.nodes.paths.items ≤ l.ground.limit)
