-- What the loop `done` of `stay` in src/staying.rt keeps, and why the loop ends.

use Rattle.std.proofs.Common.{◌≤◌, ◌-◌}
use Rattle.ls_machine.specs.Staying.{Stays}
use Rattle.ls_machine.proofs.staying.stay.Given as goal

abbrev pub invariant-loop-done : goal.invariant-loop-done
invariant-loop-done l = record {
  few : l.done ≤ l.most;
  stays : Stays l.code l.number l.done l.initial.thread l.thread l.initial.cells l.cells;
}

abbrev pub decreases-loop-done : goal.decreases-loop-done
decreases-loop-done l = l.most - l.done
