-- Why `later_stays_bad` in src/observer_laws.rt keeps its contract.

use Rattle.ls_linearizable.proofs.Judging.{stays_bad}
use Rattle.ls_linearizable.proofs.observer_laws.later_stays_bad.Goals as goal

pub returns : goal.returns
returns c = stays_bad
