-- What the loop `size` of `find_begins` in src/layout.rt keeps.

use Rattle.std.proofs.Common.{◌≡◌, ◌+◌, ◌++◌, drop}
use Rattle.ls_emit.specs.Places.{room, places_by}
use Rattle.ls_emit.proofs.layout.find_begins.Given as goal

abbrev pub invariant-loop-size : goal.invariant-loop-size
invariant-loop-size l =
    (l.begins.items ++ places_by l.next (drop l.size-index l.sizes) ≡ places_by l.place l.sizes)
    × (l.next + room (drop l.size-index l.sizes) ≡ l.place + room l.sizes)
