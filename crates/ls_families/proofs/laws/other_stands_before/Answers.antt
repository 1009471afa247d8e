-- Why `other_stands_before` in src/laws.rt keeps its contract.

use Rattle.ls_families.proofs.Others.{other_stands_before}
use Rattle.ls_families.proofs.laws.other_stands_before.Goals as goal

pub returns : goal.returns
returns c = other_stands_before
