-- What the loop `name` of `method_signs` in src/tables.rt keeps.

use Rattle.std.proofs.Common.{◌≡◌, ◌++◌, map}
use Rattle.std.specs.Prelude.{string_bytes}
use Rattle.ls_types_elaboration.specs.Tables.{method_sign_of}
use Rattle.ls_types_tables.specs.ByName.{method_entry, method_entries_of}
use Rattle.ls_types_tables.proofs.tables.method_signs.Given as goal

abbrev pub invariant-loop-name : goal.invariant-loop-name
invariant-loop-name l =
    map method_sign_of l.signs.items ++ map (λ m. method_entry (string_bytes m.0) m.1) l.name-iterator ≡
    method_entries_of l.fn.methods
