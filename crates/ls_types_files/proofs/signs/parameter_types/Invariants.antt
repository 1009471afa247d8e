-- What the loop `p` of `parameter_types` in src/signs.rt keeps.

use Rattle.std.proofs.Common.{◌≡◌, drop, map}
use Rattle.ls_types_elaboration.specs.Elaborated.{each}
use Rattle.ls_types_elaboration.specs.Signs.{one_type}
use Rattle.ls_types_tables.specs.ByName.{keys_of}
use Rattle.ls_types_elaboration.specs.PlacedStatements.{placed_parameter}
use Rattle.ls_types_files.proofs.signs.parameter_types.Given as goal

abbrev pub invariant-loop-p : goal.invariant-loop-p
invariant-loop-p l =
    each (one_type (keys_of l.names)) l.types.items (map placed_parameter (drop l.p-index l.ps))
    ≡ each (one_type (keys_of l.names)) l.initial.types.items (map placed_parameter l.ps)
