-- Why `doubles_have_names` in src/doubles.rt keeps its contract.

use Rattle.ls_exchanged.proofs.Places.{doubles_have_names}
use Rattle.ls_exchanged.proofs.doubles.doubles_have_names.Goals as goal

pub returns : goal.returns
returns c = doubles_have_names
