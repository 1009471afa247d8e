-- What the loop `name` of `field_signs` in src/tables.rt keeps.

use Rattle.std.proofs.Common.{◌≡◌, ◌++◌, map}
use Rattle.std.specs.Prelude.{string_bytes}
use Rattle.ls_types_elaboration.specs.Tables.{field_sign_of}
use Rattle.ls_types_tables.specs.ByName.{field_entry, field_entries_of}
use Rattle.ls_types_tables.proofs.tables.field_signs.Given as goal

abbrev pub invariant-loop-name : goal.invariant-loop-name
invariant-loop-name l =
    map field_sign_of l.signs.items ++ map (λ f. field_entry (string_bytes f.0) f.1) l.name-iterator ≡ field_entries_of
    l.fn.fields
