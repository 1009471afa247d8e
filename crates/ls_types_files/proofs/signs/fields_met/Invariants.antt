-- What the loop `d` of `fields_met` in src/signs.rt keeps.

use Rattle.std.proofs.Common.{◌≡◌, drop, map}
use Rattle.ls_types_elaboration.specs.Elaborated.{each}
use Rattle.ls_types_elaboration.specs.Signs.{field_met}
use Rattle.ls_types_elaboration.specs.PlacedStatements.{placed_declarator}
use Rattle.ls_types_files.specs.SignViews.{met_of}
use Rattle.ls_types_files.proofs.signs.fields_met.Given as goal

abbrev pub invariant-loop-d : goal.invariant-loop-d
invariant-loop-d l =
    each (field_met l.t) (met_of l.met) (map placed_declarator (drop l.d-index l.d-items))
    ≡ each (field_met l.t) (met_of l.initial.met) (map placed_declarator l.d-items)
