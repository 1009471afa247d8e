-- Why `serial_histories_are_known` in src/laws.rt keeps its contract.

use Rattle.ls_serial_search.proofs.Covering as covering
use Rattle.ls_serial_search.proofs.laws.serial_histories_are_known.Goals as goal

pub returns : goal.returns
returns c = covering.known_history
