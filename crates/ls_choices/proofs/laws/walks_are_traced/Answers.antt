-- Why `walks_are_traced` in src/laws.rt keeps its clauses `lines` and `leads`.

use Rattle.ls_choices.proofs.Leading.{walks_lead}
use Rattle.ls_choices.proofs.Tracing.{walks_are_traced}
use Rattle.ls_choices.proofs.laws.walks_are_traced.Goals as goal

pub returns-clause-lines : goal.returns-clause-lines
returns-clause-lines c = walks_are_traced

pub returns-clause-leads : goal.returns-clause-leads
returns-clause-leads c = walks_lead
