-- Why `merges_merge` in src/laws.rt keeps its contract.

use Rattle.ls_tallies.proofs.MergeLemmas.{merges_merge}
use Rattle.ls_tallies.proofs.laws.merges_merge.Goals as goal

pub returns : goal.returns
returns c = merges_merge
