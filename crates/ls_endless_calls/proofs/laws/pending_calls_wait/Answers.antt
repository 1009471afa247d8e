-- Why `pending_calls_wait` in src/laws.rt keeps its clauses `waits` and `none`.

use Rattle.ls_endless_calls.proofs.Pending.{none_for_ever, pending_waits}
use Rattle.ls_endless_calls.proofs.laws.pending_calls_wait.Goals as goal

pub returns-clause-waits : goal.returns-clause-waits
returns-clause-waits c = pending_waits

pub returns-clause-none : goal.returns-clause-none
returns-clause-none c = none_for_ever
