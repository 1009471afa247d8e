-- What the loop `call` of `any_has_number` in src/doubles.rt keeps.

use Rattle.std.proofs.Common.{◌≡◌, drop, map, string_bytes}
use Rattle.std.specs.List.{list_any}
use Rattle.ls_families.specs.Doubles.{has_number}
use Rattle.ls_families.proofs.doubles.any_has_number.Given as goal

abbrev pub invariant-loop-call : goal.invariant-loop-call
invariant-loop-call l =
    list_any has_number (map string_bytes (drop l.call-index l.menu)) ≡ list_any has_number (map string_bytes l.menu)
