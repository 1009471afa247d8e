-- What the loop `c` of `class_tables` in src/signs.rt keeps.

use Rattle.std.proofs.Common.{◌≡◌, drop, map}
use Rattle.ls_types_elaboration.specs.Elaborated.{each}
use Rattle.ls_types_elaboration.specs.Signs.{one_class}
use Rattle.ls_types_tables.specs.ByName.{keys_of}
use Rattle.ls_types_elaboration.specs.PlacedStatements.{placed_class}
use Rattle.ls_types_files.specs.SignViews.{classes_of}
use Rattle.ls_types_files.proofs.signs.class_tables.Given as goal

abbrev pub invariant-loop-c : goal.invariant-loop-c
invariant-loop-c l =
    each (one_class (keys_of l.names)) (classes_of l.classes) (map placed_class (drop l.c-index l.all))
    ≡ each (one_class (keys_of l.names)) (classes_of l.initial.classes) (map placed_class l.all)
