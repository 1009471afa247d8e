-- What the loop `instruction` of `add_instructions` in src/units.rt keeps.

use Rattle.std.proofs.Common.{◌≡◌, ◌++◌, map, take}
use Rattle.ls_emit.specs.Units.{moved}
use Rattle.ls_linker.proofs.units.add_instructions.Given as goal

abbrev pub invariant-loop-instruction : goal.invariant-loop-instruction
invariant-loop-instruction l = l.code.items ≡ l.fn.code.items ++
    map (moved l.start) (take l.instruction-index l.instructions)
