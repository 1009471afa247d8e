-- Why `after` in src/programs.rt keeps its contract.

use Rattle.ls_find_reports.proofs.Bodies.{strip_text}
use Rattle.ls_find_reports.proofs.programs.after.Goals as goal

pub returns : goal.returns
returns c = strip_text c.args.front.now c.args.text.now c.strip_prefix.result c.strip_prefix.ensures.cases
