-- Why `coarse_list_is_a_set` in src/laws.rt keeps its contract.

use Rattle.ls_coarse_text.proofs.Images.{coarse_list_is_a_set}
use Rattle.ls_coarse_text.proofs.laws.coarse_list_is_a_set.Goals as goal

pub returns : goal.returns
returns c = coarse_list_is_a_set c.list_text_is_a_set.ensures
