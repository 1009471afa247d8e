-- What `find_hopeless` in src/finding.rt keeps, and why it ends.

use Rattle.std.proofs.Common.{◌≤◌, ◌<◌, ◌-◌, length, map, take, string_bytes}
use Rattle.ls_linearizable.specs.Linearizable.{IsLinearizable}
use Rattle.ls_serial_orders.specs.Known.{file_of, program_of}
use Rattle.ls_serial_orders.specs.Orders.{IsOrderOf}
use Rattle.ls_serial_orders.proofs.finding.find_hopeless.Given as goal

abbrev pub invariant-bisect : goal.invariant-bisect
invariant-bisect l = record {
  apart : l.at < l.hopeless;
  within : l.hopeless ≤ length l.history;
  before : IsOrderOf (file_of l.known) (program_of l.known) (take l.at l.history) (map string_bytes l.order.items);
  after : IsLinearizable (file_of l.known) (program_of l.known) (take l.hopeless l.history) → ⊥;
}

abbrev pub decreases-bisect : goal.decreases-bisect
decreases-bisect l = l.hopeless - l.at
