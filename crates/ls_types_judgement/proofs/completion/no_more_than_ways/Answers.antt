-- Why `no_more_than_ways` in src/completion.rt keeps its contract.

use Rattle.ls_types_judgement.proofs.Least.{no_more_than_ways as shown}
use Rattle.ls_types_judgement.proofs.completion.no_more_than_ways.Goals as goal

pub returns : goal.returns
returns c = shown
