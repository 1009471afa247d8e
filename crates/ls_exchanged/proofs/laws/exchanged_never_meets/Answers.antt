-- Why `exchanged_never_meets` in src/laws.rt keeps its contract.

use Rattle.ls_exchanged.proofs.Meeting.{never_meets}
use Rattle.ls_exchanged.proofs.laws.exchanged_never_meets.Goals as goal

pub returns : goal.returns
returns c = never_meets
