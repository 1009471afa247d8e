-- Why `text_is_spelled` in src/laws.rt keeps its contract.

use Rattle.ls_coarse_text.proofs.Text.{text_is_spelled}
use Rattle.ls_coarse_text.proofs.laws.text_is_spelled.Goals as goal

pub returns : goal.returns
returns c = text_is_spelled
