-- What `Path::thread` in src/links.rt keeps.

use Rattle.std.proofs.Common.{◌≡◌, ◌<◌, ◌++◌, ℕ, List, [], length, get_or}
use Rattle.ls_explore.specs.Paths.{paths_of}
use Rattle.ls_explore.proofs.links.Path.thread.Given as goal

abbrev pub invariant-loop : goal.invariant-loop
invariant-loop l =
    (l.at < length l.links)
    × ((rest : List ℕ) × (length rest ≡ l.counter) × (l.self ≡ get_or (paths_of l.links) l.at [] ++ rest))
