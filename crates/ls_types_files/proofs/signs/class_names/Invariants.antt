-- What the loop `c` of `class_names` in src/signs.rt keeps.

use Rattle.std.proofs.Common.{◌≡◌, drop, map}
use Rattle.ls_types_elaboration.specs.Elaborated.{each}
use Rattle.ls_types_elaboration.specs.Signs.{one_name}
use Rattle.ls_types_tables.specs.ByName.{keys_of}
use Rattle.ls_types_elaboration.specs.PlacedStatements.{placed_class}
use Rattle.ls_types_files.proofs.signs.class_names.Given as goal

abbrev pub invariant-loop-c : goal.invariant-loop-c
invariant-loop-c l =
    each one_name (keys_of l.names) (map placed_class (drop l.c-index l.classes))
    ≡ each one_name (keys_of l.initial.names) (map placed_class l.classes)
