-- Why `folds` in src/traces.rt keeps its clauses `reads`, `waits` and `turns`.

use Rattle.std.proofs.Common.{refl}
use Rattle.std.specs.Fmt.{digits}
use Rattle.std.specs.Int.{int_wrap}
use Rattle.ls_meaning.specs.Methods.{invoke, depth_limit}
use Rattle.ls_view_rows.proofs.traces.folds.Goals as goal

pub returns-clause-reads : goal.returns-clause-reads
unfolding digits int_wrap invoke depth_limit
returns-clause-reads c = refl

pub returns-clause-waits : goal.returns-clause-waits
unfolding digits int_wrap invoke depth_limit
returns-clause-waits c = refl

pub returns-clause-turns : goal.returns-clause-turns
unfolding digits int_wrap invoke depth_limit
returns-clause-turns c = refl
