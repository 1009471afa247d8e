-- Why `no_places` in src/laws.rt keeps its contract.

use Rattle.ls_types_places.proofs.Files.{no_places}
use Rattle.ls_types_places.proofs.laws.no_places.Goals as goal

pub returns : goal.returns
returns c = no_places
