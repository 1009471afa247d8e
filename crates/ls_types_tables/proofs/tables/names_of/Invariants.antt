-- What the loop `name` of `names_of` in src/tables.rt keeps.

use Rattle.std.proofs.Common.{◌≡◌, ◌++◌}
use Rattle.ls_types_tables.proofs.tables.names_of.Given as goal

abbrev pub invariant-loop-name : goal.invariant-loop-name
invariant-loop-name l = l.all.items ++ l.name-iterator ≡ l.fn.names.keys
