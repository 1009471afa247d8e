-- Why `exchanged_never_turns` in src/laws.rt keeps its contract.

use Rattle.ls_exchanged.proofs.Turning.{never_turns}
use Rattle.ls_exchanged.proofs.laws.exchanged_never_turns.Goals as goal

pub returns : goal.returns
returns c = never_turns
