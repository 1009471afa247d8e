-- Why `number_of` in src/known.rt keeps its clause `found`.

use Rattle.std.proofs.Common.{◌∙◌}
use Rattle.ls_types_elaboration.proofs.Named.{number_found}
use Rattle.ls_types_elaboration.proofs.known.number_of.Goals as goal

pub returns-clause-found : goal.returns-clause-found
returns-clause-found c = c.name_at.ensures.found ∙ number_found c.args.names.now c.args.name.now
