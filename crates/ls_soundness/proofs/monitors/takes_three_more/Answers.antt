-- Why `takes_three_more` in src/monitors.rt keeps its contract.

use Rattle.ls_soundness.proofs.Parts.{takes_three_more}
use Rattle.ls_soundness.proofs.monitors.takes_three_more.Goals as goal

pub returns : goal.returns
returns c = takes_three_more
