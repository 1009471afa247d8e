-- Why `cut` in src/cuts.rt keeps its contract.

use Rattle.std.proofs.Common.{arith}
use Rattle.ls_report.proofs.CutLemmas.{cut_is}
use Rattle.ls_report.proofs.cuts.cut.Goals as goal

pub returns : goal.returns
returns c = cut_is c.args.mark c.args.text.now c.split_once.result c.split_once.ensures.cases (omega arith)
