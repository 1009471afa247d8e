-- Why `begins` in src/statuses.rt keeps its contract.

use Rattle.std.proofs.lemmas.Str.Pattern.{starts_text}
use Rattle.ls_find_reports.proofs.statuses.begins.Goals as goal

pub returns : goal.returns
returns c = starts_text c.starts_with.result c.args.first.now c.args.text.now c.starts_with.ensures.cases
