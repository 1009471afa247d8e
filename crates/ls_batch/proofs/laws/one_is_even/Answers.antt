-- Why `one_is_even` in src/laws.rt keeps its contract.

use Rattle.ls_batch.proofs.Evened.{one_is_even}
use Rattle.ls_batch.proofs.laws.one_is_even.Goals as goal

pub returns : goal.returns
returns c = one_is_even
