-- Why `has_order_exactly` in src/laws.rt keeps its contract.

use Rattle.ls_serial_orders.proofs.Ordering.{order_exactly}
use Rattle.ls_serial_orders.proofs.laws.has_order_exactly.Goals as goal

pub returns : goal.returns
returns c = λ file program h. order_exactly file program h
