-- What the loop `d` of `member_set` in src/methods.rt keeps.

use Rattle.std.proofs.Common.{◌≡◌, drop, map}
use Rattle.ls_types_elaboration.specs.Elaborated.{each}
use Rattle.ls_checked.specs.Plain.{plain_statement}
use Rattle.ls_types_elaboration.specs.TypedMethods.{declarator_set}
use Rattle.ls_types_elaboration.specs.PlacedStatements.{placed_declarator}
use Rattle.ls_types_tables.specs.ByName.{known_of}
use Rattle.ls_types_files.proofs.methods.member_set.Given as goal

abbrev pub invariant-loop-d : goal.invariant-loop-d
invariant-loop-d l =
    each (declarator_set (known_of l.known)) (map plain_statement l.front.items)
    (map placed_declarator (drop l.d-index l.d-items))
    ≡ each (declarator_set (known_of l.known)) (map plain_statement l.initial.front.items)
    (map placed_declarator l.d-items)
