-- Why `folds_are_of_the_trace` in src/folding.rt keeps its clauses `trace` and `nothing`.

use Rattle.ls_trace.proofs.Quiet.{change_nothing}
use Rattle.ls_trace.proofs.Told.{folds_the_trace}
use Rattle.ls_trace.proofs.folding.folds_are_of_the_trace.Goals as goal

pub returns-clause-trace : goal.returns-clause-trace
returns-clause-trace c = folds_the_trace

pub returns-clause-nothing : goal.returns-clause-nothing
returns-clause-nothing c = change_nothing
