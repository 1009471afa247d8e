-- What the loop `method` of `emit_units` in src/emitting.rt keeps.

use Rattle.std.proofs.Common.{◌≡◌, map, take}
use Rattle.ls_lowered.specs.Plain.{plain_method}
use Rattle.ls_emit.specs.Units.{units_of}
use Rattle.ls_emit.proofs.emitting.emit_units.Given as goal

abbrev pub invariant-loop-method : goal.invariant-loop-method
invariant-loop-method l = l.units.items ≡ units_of (map plain_method (take l.method-index l.methods))
