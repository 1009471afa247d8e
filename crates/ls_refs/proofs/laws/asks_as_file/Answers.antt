-- Why `asks_as_file` in src/laws.rt keeps its contract.

use Rattle.ls_refs.proofs.Methods.{asks_as_file}
use Rattle.ls_refs.proofs.laws.asks_as_file.Goals as goal

pub returns : goal.returns
returns c = asks_as_file
