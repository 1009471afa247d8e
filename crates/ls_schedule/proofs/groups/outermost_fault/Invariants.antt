-- What `outermost_fault` in src/groups.rt keeps, and why it ends.

use Rattle.std.proofs.Common.{◌≡◌, ◌+◌, ◌≤◌, length}
use Rattle.ls_schedule.specs.Passing.{last_first, outer_fault, places}
use Rattle.ls_schedule.proofs.groups.outermost_fault.Given as goal

abbrev pub invariant-bytes : goal.invariant-bytes
invariant-bytes l = record {
  left : l.outside.left ≤ length l.groups;
  deeper : l.outside.deeper + length l.rest ≤ length l.text;
  first : outer_fault (last_first (places l.groups) l.outside.left) l.outside.deeper l.outside.fault l.rest ≡
      outer_fault (last_first (places l.groups) (length l.groups)) 0 l.fn.fault l.text;
}

abbrev pub decreases-bytes : goal.decreases-bytes
decreases-bytes l = length l.rest
