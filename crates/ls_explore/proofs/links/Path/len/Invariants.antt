-- What the loop `last` of `Path::len` in src/links.rt keeps, and why the loop ends.

use Rattle.std.proofs.Common.{◌≡◌, ◌<◌, ◌+◌, [], length, get_or}
use Rattle.ls_explore.specs.Paths.{paths_of}
use Rattle.ls_explore.proofs.links.Path.len.Given as goal

abbrev pub invariant-loop-last : goal.invariant-loop-last
invariant-loop-last l =
    (l.at + l.count < length l.links)
    × (length (get_or (paths_of l.links) l.at []) + l.count ≡ length l.self)

abbrev pub decreases-loop-last : goal.decreases-loop-last
decreases-loop-last l = l.at
