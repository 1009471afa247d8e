-- What the loop `s` of `simples` in src/simple_values.rt keeps.

use Rattle.std.proofs.Common.{◌≡◌, [], drop, map}
use Rattle.ls_checked.specs.Plain.{plain_statement}
use Rattle.ls_types_elaboration.specs.Elaborated.{each}
use Rattle.ls_types_elaboration.specs.PlacedStatements.{placed_simple}
use Rattle.ls_types_elaboration.specs.TypedStatements.{one_simple}
use Rattle.ls_types_expressions.specs.Views.{locals_of}
use Rattle.ls_types_tables.specs.ByName.{known_of}
use Rattle.ls_types_expressions.proofs.simple_values.simples.Given as goal

abbrev pub invariant-loop-s : goal.invariant-loop-s
invariant-loop-s l =
    each (one_simple (known_of l.site.known) (locals_of l.site)) (map plain_statement l.front.items)
    (map placed_simple (drop l.s-index l.ss))
    ≡ each (one_simple (known_of l.site.known) (locals_of l.site)) [] (map placed_simple l.ss)
