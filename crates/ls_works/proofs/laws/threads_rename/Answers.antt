-- Why `threads_rename` in src/laws.rt keeps its contract.

use Rattle.ls_works.proofs.Frames.{threads_rename}
use Rattle.ls_works.proofs.laws.threads_rename.Goals as goal

pub returns : goal.returns
returns c = threads_rename
