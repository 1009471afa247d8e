-- What the loop `text` of `with_argument` in src/arguments.rt keeps.

use Rattle.std.proofs.Common.{◌≡◌, ◌++◌, drop, map, string_bytes}
use Rattle.ls_items.specs.Cutting.{plain_text}
use Rattle.ls_class_programs.specs.Menus.{with_argument}
use Rattle.ls_class_programs.proofs.arguments.with_argument.Given as goal

abbrev pub invariant-loop-text : goal.invariant-loop-text
invariant-loop-text l =
    map string_bytes l.all.items ++ with_argument (map string_bytes (drop l.text-index l.begun))
    (map plain_text l.more) ≡ with_argument (map string_bytes l.begun) (map plain_text l.more)
