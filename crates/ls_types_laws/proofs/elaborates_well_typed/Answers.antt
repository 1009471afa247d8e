-- Why `elaborates_well_typed` in src/lib.rt keeps its contract.

use Rattle.ls_types_laws.proofs.WellTyped.{well_typed}
use Rattle.ls_types_laws.proofs.elaborates_well_typed.Goals as goal

pub returns : goal.returns
returns c = well_typed
