-- What the loop `last` of `Path::to_vec` in src/links.rt keeps, and why the loop ends.

use Rattle.std.proofs.Common.{◌≡◌, ◌<◌, ◌++◌, [], length, get_or, reverse}
use Rattle.ls_explore.specs.Paths.{paths_of}
use Rattle.ls_explore.proofs.links.Path.to_vec.Given as goal

abbrev pub invariant-loop-last : goal.invariant-loop-last
invariant-loop-last l =
    (l.at < length l.links)
    × (l.self ≡ get_or (paths_of l.links) l.at [] ++ reverse l.threads.items)

abbrev pub decreases-loop-last : goal.decreases-loop-last
decreases-loop-last l = l.at
