-- What the loop `size` of `room_of` in src/layout.rt keeps.

use Rattle.std.proofs.Common.{◌≡◌, ◌+◌, drop}
use Rattle.ls_emit.specs.Places.{room}
use Rattle.ls_emit.proofs.layout.room_of.Given as goal

abbrev pub invariant-loop-size : goal.invariant-loop-size
invariant-loop-size l = l.count + room (drop l.size-index l.sizes) ≡ room l.sizes
