-- Why `runs_decide` in src/laws.rt keeps its clauses `among` and `all`.

use Rattle.ls_endless_calls.proofs.Runs.{all, among}
use Rattle.ls_endless_calls.proofs.laws.runs_decide.Goals as goal

pub returns-clause-among : goal.returns-clause-among
returns-clause-among c = among

pub returns-clause-all : goal.returns-clause-all
returns-clause-all c = all
