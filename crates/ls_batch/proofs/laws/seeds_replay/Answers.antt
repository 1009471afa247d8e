-- Why `seeds_replay` in src/laws.rt keeps its contract.

use Rattle.ls_batch.proofs.Replayed.{seeds_replay}
use Rattle.ls_batch.proofs.laws.seeds_replay.Goals as goal

pub returns : goal.returns
returns c = seeds_replay
