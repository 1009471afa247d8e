-- Why `next_renames` in src/laws.rt keeps its contract.

use Rattle.ls_meaning.proofs.RenamesThreads.{next_other}
use Rattle.ls_meaning.proofs.laws.next_renames.Goals as goal

pub returns : goal.returns
returns c = λ file program constants values names is thread answers.
    next_other names is file constants program values thread answers
