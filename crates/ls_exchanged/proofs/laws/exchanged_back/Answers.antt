-- Why `exchanged_back` in src/laws.rt keeps its contract.

use Rattle.ls_exchanged.proofs.Alike.{back}
use Rattle.ls_exchanged.proofs.laws.exchanged_back.Goals as goal

pub returns : goal.returns
returns c = back
