-- Why `text_is_the_list` in src/laws.rt keeps its contract.

use Rattle.ls_coarse_text.proofs.Text.{text_is_the_list}
use Rattle.ls_coarse_text.proofs.laws.text_is_the_list.Goals as goal

pub returns : goal.returns
returns c = text_is_the_list c.one_file.ensures c.no_places.ensures
