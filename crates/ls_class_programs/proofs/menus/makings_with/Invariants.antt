-- What the loop `one` of `makings_with` in src/menus.rt keeps.

use Rattle.std.proofs.Common.{◌≡◌, ◌++◌, drop, map, string_bytes}
use Rattle.ls_class_programs.specs.Menus.{making_text}
use Rattle.ls_class_programs.proofs.menus.makings_with.Given as goal

abbrev pub invariant-loop-one : goal.invariant-loop-one
invariant-loop-one l =
    map string_bytes l.all.items ++ map (making_text l.name) (map string_bytes (drop l.one-index l.arguments)) ≡
    map (making_text l.name) (map string_bytes l.arguments)
