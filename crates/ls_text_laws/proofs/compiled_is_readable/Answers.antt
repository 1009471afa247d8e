-- Why `compiled_is_readable` in src/lib.rt keeps its contract.

use Rattle.ls_text_laws.proofs.Whole as whole
use Rattle.ls_text_laws.proofs.compiled_is_readable.Goals as goal

pub returns : goal.returns
returns c = whole.compiled_is_readable
