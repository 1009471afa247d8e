-- Why `every_schedule_is_linearizable` in src/decided.rt keeps its clauses `fitting` and `whole`.

use Rattle.ls_linearizable.proofs.Linearizing.{begun_linearizable}
use Rattle.ls_explore_reports.specs.Rows.{histories}
use Rattle.ls_explore_reports.proofs.RowsTold.{all_of_histories, told_begins}
use Rattle.ls_meaning.specs.Runs.{source_history}
use Rattle.ls_explore_reports.proofs.decided.every_schedule_is_linearizable.Goals as goal

pub returns-clause-fitting : goal.returns-clause-fitting
returns-clause-fitting c = λ file program cells rows all each schedule fits.
    begun_linearizable file program (histories rows) (all_of_histories file program rows each)
    (source_history file program schedule)
    (told_begins rows (source_history file program schedule) (all.begun schedule fits))

pub returns-clause-whole : goal.returns-clause-whole
returns-clause-whole c = λ file program rows all each schedule.
    begun_linearizable file program (histories rows) (all_of_histories file program rows each)
    (source_history file program schedule) (told_begins rows (source_history file program schedule)
    (all.begun schedule))
