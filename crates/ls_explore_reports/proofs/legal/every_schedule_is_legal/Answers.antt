-- Why `every_schedule_is_legal` in src/legal.rt keeps its clauses `fitting` and `whole`.

use Rattle.ls_meaning.specs.Runs.{source_history}
use Rattle.ls_explore_reports.proofs.OrdersOfBeginnings.{told_legal}
use Rattle.ls_explore_reports.proofs.legal.every_schedule_is_legal.Goals as goal

pub returns-clause-fitting : goal.returns-clause-fitting
returns-clause-fitting c = λ file program cells rows all legal schedule fits.
    told_legal program rows (source_history file program schedule) legal (all.begun schedule fits)

pub returns-clause-whole : goal.returns-clause-whole
returns-clause-whole c = λ file program rows all legal schedule.
    told_legal program rows (source_history file program schedule) legal (all.begun schedule)
