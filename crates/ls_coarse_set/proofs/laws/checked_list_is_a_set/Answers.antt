-- Why `checked_list_is_a_set` in src/laws.rt keeps its contract.

use Rattle.ls_coarse_set.proofs.Coarse.{checked_list_is_a_set}
use Rattle.ls_coarse_set.proofs.laws.checked_list_is_a_set.Goals as goal

pub returns : goal.returns
returns c = checked_list_is_a_set
