-- Why `exchanged_never_waits` in src/laws.rt keeps its contract.

use Rattle.ls_exchanged.proofs.Waiting.{never_waits}
use Rattle.ls_exchanged.proofs.laws.exchanged_never_waits.Goals as goal

pub returns : goal.returns
returns c = never_waits
