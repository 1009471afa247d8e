-- Why `bad_stays_bad` in src/laws.rt keeps its contract.

use Rattle.ls_linearizable.proofs.Judging.{stays_bad}
use Rattle.ls_source_judge.proofs.laws.bad_stays_bad.Goals as goal

pub returns : goal.returns
returns c = stays_bad
