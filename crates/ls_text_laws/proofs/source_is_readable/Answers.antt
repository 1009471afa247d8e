-- Why `source_is_readable` in src/lib.rt keeps its contract.

use Rattle.ls_text_laws.proofs.Whole as whole
use Rattle.ls_text_laws.proofs.source_is_readable.Goals as goal

pub returns : goal.returns
returns c = whole.source_is_readable
