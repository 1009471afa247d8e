-- What the loop `m` of `has_constructor` in src/methods.rt keeps.

use Rattle.std.proofs.Common.{◌≡◌, drop, map}
use Rattle.ls_types_elaboration.specs.TypedMethods.{has_constructor}
use Rattle.ls_types_elaboration.specs.PlacedStatements.{placed_member}
use Rattle.ls_types_files.proofs.methods.has_constructor.Given as goal

abbrev pub invariant-loop-m : goal.invariant-loop-m
invariant-loop-m l =
    has_constructor (map placed_member (drop l.m-index l.members)) ≡ has_constructor (map placed_member l.members)
