-- What the loop `m` of `class_methods` in src/methods.rt keeps.

use Rattle.std.proofs.Common.{◌≡◌, drop, map}
use Rattle.ls_types_elaboration.specs.Elaborated.{each}
use Rattle.ls_checked.specs.Plain.{plain_method}
use Rattle.ls_types_elaboration.specs.TypedMethods.{one_method}
use Rattle.ls_types_elaboration.specs.PlacedStatements.{placed_member}
use Rattle.ls_types_tables.specs.ByName.{known_of}
use Rattle.ls_types_files.proofs.methods.class_methods.Given as goal

abbrev pub invariant-loop-m : goal.invariant-loop-m
invariant-loop-m l =
    each (one_method (known_of l.known) (map placed_member l.members)) (map plain_method l.methods.items)
    (map placed_member (drop l.m-index l.members))
    ≡ each (one_method (known_of l.known) (map placed_member l.members)) (map plain_method l.initial.methods.items)
    (map placed_member l.members)
