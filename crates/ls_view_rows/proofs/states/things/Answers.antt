-- Why `things` in src/states.rt keeps its clauses `things`, `names` and `graph`.

use Rattle.std.proofs.Common.{refl}
use Rattle.std.specs.Fmt.{digits}
use Rattle.ls_view_rows.proofs.states.things.Goals as goal

pub returns-clause-things : goal.returns-clause-things
unfolding digits
returns-clause-things c = refl

pub returns-clause-names : goal.returns-clause-names
unfolding digits
returns-clause-names c = refl

pub returns-clause-graph : goal.returns-clause-graph
unfolding digits
returns-clause-graph c = refl
