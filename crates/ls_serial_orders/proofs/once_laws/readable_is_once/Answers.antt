-- Why `readable_is_once` in src/once_laws.rt keeps its contract.

use Rattle.ls_serial_orders.proofs.Rising.{readable_is_once}
use Rattle.ls_serial_orders.proofs.once_laws.readable_is_once.Goals as goal

pub returns : goal.returns
returns c = readable_is_once
