-- What the loop `i` of `run_from` in src/layers.rt keeps.

use Rattle.std.proofs.Common.{◌≡◌, ◌++◌, drop}
use Rattle.ls_serial_orders.specs.Placing.{run_of}
use Rattle.ls_serial_orders.proofs.layers.run_from.Given as goal

abbrev pub invariant-loop-i : goal.invariant-loop-i
invariant-loop-i l = l.run.items ++ run_of (drop l.i l.ends) ≡ run_of l.ends
