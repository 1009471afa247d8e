-- What the loop `last` of `steps_to` in src/steps.rt keeps, and why the loop ends.

use Rattle.std.proofs.Common.{◌≡◌, ◌<◌, ◌++◌, [], length, get_or, reverse}
use Rattle.ls_search.specs.Listed.{paths_of}
use Rattle.ls_search.proofs.steps.steps_to.Given as goal

abbrev pub invariant-loop-last : goal.invariant-loop-last
invariant-loop-last l =
    (l.place < length l.nodes)
    × (get_or (paths_of l.nodes) l.at [] ≡ get_or (paths_of l.nodes) l.place [] ++ reverse l.threads.items)

abbrev pub decreases-loop-last : goal.decreases-loop-last
decreases-loop-last l = l.place
