-- What the loop `own` of `file_methods` in src/elaboration.rt keeps.

use Rattle.std.proofs.Common.{◌≡◌, drop, map}
use Rattle.ls_types_elaboration.specs.Elaborated.{each}
use Rattle.ls_checked.specs.Plain.{plain_method}
use Rattle.ls_types_elaboration.specs.Elaboration.{one_body}
use Rattle.ls_types_elaboration.specs.PlacedStatements.{placed_class}
use Rattle.ls_types_tables.specs.ByName.{keys_of, class_entry_of}
use Rattle.ls_types_files.proofs.elaboration.file_methods.Given as goal

abbrev pub invariant-loop-own : goal.invariant-loop-own
invariant-loop-own l =
    each (one_body (keys_of l.names) (map class_entry_of l.tables))
    (record { methods = map plain_method l.methods.items; own = l.own }) (map placed_class (drop l.own l.classes))
    ≡ each (one_body (keys_of l.names) (map class_entry_of l.tables))
    (record { methods = map plain_method l.initial.methods.items; own = 0 }) (map placed_class l.classes)
