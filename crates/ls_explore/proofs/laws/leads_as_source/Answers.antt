-- Why `leads_as_source` in src/laws.rt keeps its contract.

use Rattle.ls_explore.proofs.Along.{leads_as_source}
use Rattle.ls_explore.proofs.laws.leads_as_source.Goals as goal

pub returns : goal.returns
returns c = leads_as_source
