-- What the loop `tables` of `class_signs` in src/tables.rt keeps.

use Rattle.std.proofs.Common.{◌≡◌, map}
use Rattle.ls_types_elaboration.specs.Tables.{class_sign_of}
use Rattle.ls_types_tables.specs.ByName.{class_entry_of}
use Rattle.ls_types_tables.proofs.tables.class_signs.Given as goal

abbrev pub invariant-loop-tables : goal.invariant-loop-tables
invariant-loop-tables l = map class_sign_of l.signs.items ≡ map class_entry_of l.yielded
