-- What the loop `argument` of `push_each` in src/arguments.rt keeps.

use Rattle.std.proofs.Common.{◌≡◌, ◌++◌, drop, map, string_bytes}
use Rattle.ls_items.specs.Cutting.{plain_text}
use Rattle.ls_class_programs.specs.Menus.{and_then}
use Rattle.ls_class_programs.proofs.arguments.push_each.Given as goal

abbrev pub invariant-loop-argument : goal.invariant-loop-argument
invariant-loop-argument l =
    map string_bytes l.all.items ++ map (and_then l.begun) (map plain_text (drop l.argument-index l.more)) ≡
    map string_bytes l.initial.all.items ++ map (and_then l.begun) (map plain_text l.more)
