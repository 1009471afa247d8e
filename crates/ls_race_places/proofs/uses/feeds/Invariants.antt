-- What the loop `byte` of `feeds` in src/uses.rt keeps.

use Rattle.std.proofs.Common.{◌≡◌, ◌≤◌, take}
use Rattle.std.specs.List.{count_by}
use Rattle.ls_race_places.specs.Uses.{is_feed}
use Rattle.ls_race_places.proofs.uses.feeds.Given as goal

abbrev pub invariant-loop-byte : goal.invariant-loop-byte
invariant-loop-byte l = (l.count ≡ count_by is_feed (take l.byte-index l.bytes)) × (l.count ≤ l.byte-index)
