-- What the loop `one` of `push_calls` in src/menus.rt keeps.

use Rattle.std.proofs.Common.{◌≡◌, ◌++◌, drop, map, string_bytes}
use Rattle.ls_class_programs.specs.Menus.{call_text}
use Rattle.ls_class_programs.proofs.menus.push_calls.Given as goal

abbrev pub invariant-loop-one : goal.invariant-loop-one
invariant-loop-one l =
    map string_bytes l.calls.items ++ map (call_text l.name) (map string_bytes (drop l.one-index l.arguments)) ≡
    map string_bytes l.initial.calls.items ++ map (call_text l.name) (map string_bytes l.arguments)
