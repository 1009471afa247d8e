-- Why `none_is_unlike` in src/laws.rt keeps its contract.

use Rattle.ls_explore_reports.proofs.RowsLike.{each_like, none_unlike, none_unlike_that_fits}
use Rattle.ls_explore_reports.proofs.laws.none_is_unlike.Goals as goal

pub returns : goal.returns
returns c = record { rows = each_like; fitting = none_unlike_that_fits; judged = none_unlike }
