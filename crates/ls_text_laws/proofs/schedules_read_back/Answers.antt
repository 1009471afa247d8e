-- Why `schedules_read_back` in src/lib.rt keeps its clauses `names`, `printed`, `read` and `again`.

use Rattle.ls_text_laws.proofs.Schedules as schedules
use Rattle.ls_text_laws.proofs.schedules_read_back.Goals as goal

pub returns-clause-names : goal.returns-clause-names
returns-clause-names c = schedules.names_are_read

pub returns-clause-printed : goal.returns-clause-printed
returns-clause-printed c = schedules.schedules_read_back

pub returns-clause-read : goal.returns-clause-read
returns-clause-read c = schedules.what_is_read

pub returns-clause-again : goal.returns-clause-again
returns-clause-again c = schedules.is_read_again
