-- Why `merge` in src/merging.rt keeps its contract.

use Rattle.ls_automaton.proofs.Joined.{merged_same}
use Rattle.ls_automaton.proofs.merging.merge.Goals as goal

pub returns : goal.returns
returns c = merged_same c.args.rows.items
