-- Why `linearity_is_meant` in src/laws.rt keeps its contract.

use Rattle.ls_explore_reports.proofs.Meant.{are_meant}
use Rattle.ls_explore_reports.proofs.laws.linearity_is_meant.Goals as goal

pub returns : goal.returns
returns c = are_meant c.rows_decide.ensures.explained c.rows_decide.ensures.whole
