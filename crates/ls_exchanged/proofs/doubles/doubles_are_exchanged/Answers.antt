-- Why `doubles_are_exchanged` in src/doubles.rt keeps its contract.

use Rattle.ls_exchanged.proofs.Places.{doubles_are_exchanged}
use Rattle.ls_exchanged.proofs.doubles.doubles_are_exchanged.Goals as goal

pub returns : goal.returns
returns c = doubles_are_exchanged
