-- Why `suited_in_thread` in src/laws.rt keeps its clauses `making` and `calling`.

use Rattle.ls_soundness.proofs.ThreadCalls.{in_making, in_calling}
use Rattle.ls_soundness.proofs.laws.suited_in_thread.Goals as goal

pub returns-clause-making : goal.returns-clause-making
returns-clause-making c = in_making

pub returns-clause-calling : goal.returns-clause-calling
returns-clause-calling c = in_calling
