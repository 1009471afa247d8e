-- What the loop `i` of `are_same_events` in src/same.rt keeps.

use Rattle.std.proofs.Common.{◌≡◌, take}
use Rattle.ls_events.proofs.same.are_same_events.Given as goal

abbrev pub invariant-loop-i : goal.invariant-loop-i
invariant-loop-i l = take l.i l.events ≡ take l.i l.others
