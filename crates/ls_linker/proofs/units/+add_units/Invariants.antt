-- Why the cycle `add_units` in src/units.rt ends.

use Rattle.std.proofs.Common.{length}
use Rattle.ls_linker.proofs.units.+add_units.Given as goal

abbrev pub decreases-add_units : goal.decreases-add_units
decreases-add_units l = length l.units.now
