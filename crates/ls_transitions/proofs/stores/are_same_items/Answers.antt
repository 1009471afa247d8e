-- Why `are_same_items` in src/stores.rt keeps its contract.

use Rattle.ls_transitions.proofs.Items.{same_items}
use Rattle.ls_transitions.proofs.stores.are_same_items.Goals as goal

pub returns : goal.returns
returns c = λ h. same_items c.args.items.now c.args.others.now (c.are_same_entries.ensures h)
