-- Why `is_typed_by_its_parts` in src/monitors.rt keeps its contract.

use Rattle.ls_soundness.proofs.Parts.{is_typed_by_its_parts}
use Rattle.ls_soundness.proofs.monitors.is_typed_by_its_parts.Goals as goal

pub returns : goal.returns
returns c = is_typed_by_its_parts
