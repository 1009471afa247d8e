-- Why `words_determine` in src/laws.rt keeps its contract.

use Rattle.ls_preservation.proofs.Determined.{written_one}
use Rattle.ls_preservation.proofs.laws.words_determine.Goals as goal

pub returns : goal.returns
returns c = written_one
