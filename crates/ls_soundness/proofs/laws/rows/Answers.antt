-- Why `rows` in src/laws.rt keeps its clauses `arguments`, `others` and `pairs`.

use Rattle.ls_soundness.proofs.Cases.{arguments, no_arguments, pairs}
use Rattle.ls_soundness.proofs.laws.rows.Goals as goal

pub returns-clause-arguments : goal.returns-clause-arguments
returns-clause-arguments c = arguments

pub returns-clause-others : goal.returns-clause-others
returns-clause-others c = no_arguments

pub returns-clause-pairs : goal.returns-clause-pairs
returns-clause-pairs c = pairs
