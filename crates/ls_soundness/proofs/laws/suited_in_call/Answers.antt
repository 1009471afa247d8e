-- Why `suited_in_call` in src/laws.rt keeps its contract.

use Rattle.ls_soundness.proofs.InCall.{in_call}
use Rattle.ls_soundness.proofs.laws.suited_in_call.Goals as goal

pub returns : goal.returns
returns c = in_call
