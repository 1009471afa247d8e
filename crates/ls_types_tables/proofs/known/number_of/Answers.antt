-- Why `number_of` in src/known.rt keeps its clause `found`.

use Rattle.std.proofs.Common.{◌∙◌}
use Rattle.ls_types_tables.proofs.Keys.{position_number}
use Rattle.ls_types_tables.proofs.known.number_of.Goals as goal

pub returns-clause-found : goal.returns-clause-found
returns-clause-found c = c.get_index_of.ensures.index ∙ position_number c.args.names.now.keys c.args.name.now
