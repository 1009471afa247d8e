-- Why the cycle `method_found` in src/names.rt ends.

use Rattle.std.proofs.Common.{length}
use Rattle.ls_labels.proofs.names.+method_found.Given as goal

abbrev pub decreases-method_found : goal.decreases-method_found
decreases-method_found l = length l.methods.now
