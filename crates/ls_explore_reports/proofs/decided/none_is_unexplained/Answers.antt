-- Why `none_is_unexplained` in src/decided.rt keeps its clauses `fitting`, `whole` and `unexplained`.

use Rattle.ls_meaning.specs.Runs.{source_history}
use Rattle.ls_explore.specs.Rows.{Told}
use Rattle.ls_linearizable.proofs.Linearizing.{begun_linearizable, explained_linearizable, told_explained}
use Rattle.ls_explore_reports.specs.Rows.{RowsExplain, histories}
use Rattle.ls_explore_reports.proofs.Flags.{all_flagged, flag_down}
use Rattle.ls_explore_reports.proofs.RowsTold.{all_of_histories, told_begins, told_true}
use Rattle.ls_explore_reports.proofs.decided.none_is_unexplained.Goals as goal

pub returns-clause-fitting : goal.returns-clause-fitting
returns-clause-fitting c = λ file program k cells rows flags truth all explained none schedule fits.
    begun_linearizable file program (histories rows)
    (all_of_histories file program rows
    (λ r there. explained_linearizable file program (histories rows) (told_true file program k rows truth) r.history
    (all_flagged (λ (q : Told). RowsExplain rows q.history) rows flags explained none r there)))
    (source_history file program schedule)
    (told_begins rows (source_history file program schedule) (all.begun schedule fits))

pub returns-clause-whole : goal.returns-clause-whole
returns-clause-whole c = λ file program k rows flags truth all explained none schedule.
    begun_linearizable file program (histories rows)
    (all_of_histories file program rows
    (λ r there. explained_linearizable file program (histories rows) (told_true file program k rows truth) r.history
    (all_flagged (λ (q : Told). RowsExplain rows q.history) rows flags explained none r there)))
    (source_history file program schedule) (told_begins rows (source_history file program schedule)
    (all.begun schedule))

pub returns-clause-unexplained : goal.returns-clause-unexplained
returns-clause-unexplained c = λ file program rows flags i r whole explained at down l.
    flag_down (λ (q : Told). RowsExplain rows q.history) rows flags i r explained at down
    (told_explained file program (histories rows) r.history l.schedule l.serial l.explains
    (told_begins rows (source_history file program l.schedule) (whole.begun l.schedule)))
