-- Why `next_in_call` in src/laws.rt keeps its clauses `making`, `calling` and `on_null`.

use Rattle.ls_soundness.proofs.ThreadCalls.{next_in_making, next_in_calling, next_on_null}
use Rattle.ls_soundness.proofs.laws.next_in_call.Goals as goal

pub returns-clause-making : goal.returns-clause-making
returns-clause-making c = next_in_making

pub returns-clause-calling : goal.returns-clause-calling
returns-clause-calling c = next_in_calling

pub returns-clause-on_null : goal.returns-clause-on_null
returns-clause-on_null c = next_on_null
