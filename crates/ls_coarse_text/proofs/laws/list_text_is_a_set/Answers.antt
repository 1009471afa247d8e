-- Why `list_text_is_a_set` in src/laws.rt keeps its contract.

use Rattle.ls_coarse_text.proofs.Histories.{list_text_is_a_set}
use Rattle.ls_coarse_text.proofs.laws.list_text_is_a_set.Goals as goal

pub returns : goal.returns
returns c = list_text_is_a_set c.one_file.ensures c.no_places.ensures c.checked_list_is_a_set.ensures
