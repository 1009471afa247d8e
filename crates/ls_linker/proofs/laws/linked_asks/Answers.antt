-- Why `linked_asks` in src/laws.rt keeps its contract.

use Rattle.ls_emit.specs.Units.{units_of}
use Rattle.ls_linker.proofs.Linked.{linked_asks}
use Rattle.ls_linker.proofs.UnitRuns.{all_within, emitted_take}
use Rattle.ls_linker.proofs.laws.linked_asks.Goals as goal

pub returns : goal.returns
returns c = λ file program lowered asks emittable units typed.
    linked_asks file program lowered (units_of lowered) asks (emitted_take lowered) (all_within lowered) units typed
