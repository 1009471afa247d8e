-- Why `one_answer` in src/laws.rt keeps its contract.

use Rattle.ls_types_places.proofs.Texts.{one_answer}
use Rattle.ls_types_places.proofs.laws.one_answer.Goals as goal

pub returns : goal.returns
returns c = one_answer c.one_file.ensures
