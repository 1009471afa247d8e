-- Why `completes_as_its_block` in src/monitors.rt keeps its clauses `completes`, `breaks` and `jumps`.

use Rattle.ls_soundness.proofs.Parts.{completes_as_its_block, breaks_as_its_block, jumps_as_its_block}
use Rattle.ls_soundness.proofs.monitors.completes_as_its_block.Goals as goal

pub returns-clause-completes : goal.returns-clause-completes
returns-clause-completes c = completes_as_its_block

pub returns-clause-breaks : goal.returns-clause-breaks
returns-clause-breaks c = breaks_as_its_block

pub returns-clause-jumps : goal.returns-clause-jumps
returns-clause-jumps c = jumps_as_its_block
