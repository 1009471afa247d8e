-- Why `value_named` in src/by_name.rt keeps its contract.

use Rattle.std.proofs.Common.{◌∙◌}
use Rattle.ls_types_reading.proofs.ByName.{value_found}
use Rattle.ls_types_reading.proofs.by_name.value_named.Goals as goal

pub returns : goal.returns
returns g c = c.copied.ensures ∙ c.get.ensures.value ∙ value_found c.args.values.now.entries c.args.name.now
