-- Why `each` in src/states.rt keeps its clauses `range`, `end` and `graph`.

use Rattle.std.proofs.Common.{refl}
use Rattle.std.specs.Fmt.{digits}
use Rattle.ls_meaning.specs.Methods.{invoke, depth_limit}
use Rattle.ls_view_rows.proofs.states.each.Goals as goal

pub returns-clause-range : goal.returns-clause-range
unfolding digits invoke depth_limit
returns-clause-range c = refl

pub returns-clause-end : goal.returns-clause-end
unfolding digits invoke depth_limit
returns-clause-end c = refl

pub returns-clause-graph : goal.returns-clause-graph
unfolding digits invoke depth_limit
returns-clause-graph c = refl
