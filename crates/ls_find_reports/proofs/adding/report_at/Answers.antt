-- Why `report_at` in src/adding.rt keeps its contract.

use Rattle.std.proofs.lemmas.Option.{slice_get-get_or}
use Rattle.ls_find_reports.proofs.adding.report_at.Goals as goal

pub returns : goal.returns
returns c = slice_get-get_or c.args.reports.now c.args.at _ c.requires
