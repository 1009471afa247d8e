-- What the loop `byte` of `characters` in src/spot.rt keeps.

use Rattle.std.proofs.Common.{◌≡◌, ◌≤◌, take}
use Rattle.std.specs.List.{count_by}
use Rattle.ls_explanations.specs.Spots.{begins_character}
use Rattle.ls_explanations.proofs.spot.characters.Given as goal

abbrev pub invariant-loop-byte : goal.invariant-loop-byte
invariant-loop-byte l = (l.count ≡ count_by begins_character (take l.byte-index l.bytes)) × (l.count ≤ l.byte-index)
