-- Why `loopless` in src/laws.rt keeps its contract.

use Rattle.ls_loopless.proofs.Ends.{never_turn, none_turns}
use Rattle.ls_loopless.proofs.laws.loopless.Goals as goal

pub returns : goal.returns
returns c = record { never = never_turn; none = none_turns }
