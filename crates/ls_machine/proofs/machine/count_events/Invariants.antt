-- What the loop `start` of `count_events` in src/machine.rt keeps.

use Rattle.std.proofs.Common.{◌≡◌, ◌*◌, ◌≤◌, take, length}
use Rattle.std.specs.List.{sum_by}
use Rattle.ls_machine.proofs.machine.count_events.Given as goal

abbrev pub invariant-loop-start : goal.invariant-loop-start
invariant-loop-start l = record {
  sum : l.count ≡ sum_by (λ s. 2 * length s.calls) (take l.start-index l.starts);
  small : l.count ≤ 2097152 * l.start-index;
}
