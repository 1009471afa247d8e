-- What the loop `m` of `one_class` in src/signs.rt keeps.

use Rattle.std.proofs.Common.{◌≡◌, drop, map}
use Rattle.ls_types_elaboration.specs.Elaborated.{each}
use Rattle.std.specs.Prelude.{string_bytes}
use Rattle.ls_types_elaboration.specs.Signs.{member_met}
use Rattle.ls_types_tables.specs.ByName.{keys_of}
use Rattle.ls_types_elaboration.specs.PlacedStatements.{placed_member}
use Rattle.ls_types_files.specs.SignViews.{met_of}
use Rattle.ls_types_files.proofs.signs.one_class.Given as goal

abbrev pub invariant-loop-m : goal.invariant-loop-m
invariant-loop-m l =
    each (member_met (keys_of l.names) (string_bytes l.c.name.text)) (met_of l.met)
    (map placed_member (drop l.m-index l.m-items))
    ≡ each (member_met (keys_of l.names) (string_bytes l.c.name.text)) (met_of l.initial.met)
    (map placed_member l.m-items)
