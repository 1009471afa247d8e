-- Why `rows_decide` in src/decided.rt keeps its clauses `explained`, `whole` and `fitting`.

use Rattle.ls_linearizable.proofs.Linearizing.{explained_linearizable, told_explained}
use Rattle.ls_explore_reports.specs.Rows.{histories}
use Rattle.ls_explore_reports.proofs.RowsTold.{told_begins, told_true}
use Rattle.ls_meaning.specs.Runs.{source_history}
use Rattle.ls_explore_reports.proofs.decided.rows_decide.Goals as goal

pub returns-clause-explained : goal.returns-clause-explained
returns-clause-explained c = λ file program k rows h truth e.
    explained_linearizable file program (histories rows) (told_true file program k rows truth) h e

pub returns-clause-whole : goal.returns-clause-whole
returns-clause-whole c = λ file program rows h whole l.
    told_explained file program (histories rows) h l.schedule l.serial l.explains
    (told_begins rows (source_history file program l.schedule) (whole.begun l.schedule))

pub returns-clause-fitting : goal.returns-clause-fitting
returns-clause-fitting c = λ file program cells rows h all l.
    told_explained file program (histories rows) h l.schedule l.serial l.explains
    (told_begins rows (source_history file program l.schedule) (all.begun l.schedule l.fits))
