-- What the loop `m` of `initialisers` in src/methods.rt keeps.

use Rattle.std.proofs.Common.{◌≡◌, drop, map}
use Rattle.ls_types_elaboration.specs.Elaborated.{each}
use Rattle.ls_checked.specs.Plain.{plain_statement}
use Rattle.ls_types_elaboration.specs.TypedMethods.{member_set}
use Rattle.ls_types_elaboration.specs.PlacedStatements.{placed_member}
use Rattle.ls_types_tables.specs.ByName.{known_of}
use Rattle.ls_types_files.proofs.methods.initialisers.Given as goal

abbrev pub invariant-loop-m : goal.invariant-loop-m
invariant-loop-m l =
    each (member_set (known_of l.known)) (map plain_statement l.front.items)
    (map placed_member (drop l.m-index l.members))
    ≡ each (member_set (known_of l.known)) (map plain_statement l.initial.front.items) (map placed_member l.members)
