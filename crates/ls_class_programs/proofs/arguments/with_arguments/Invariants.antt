-- What the loop `parameter` of `with_arguments` in src/arguments.rt keeps.

use Rattle.std.proofs.Common.{◌≡◌, ◌≤◌, length, take, map, string_bytes}
use Rattle.ls_items.specs.Cutting.{plain_text}
use Rattle.ls_tree.specs.Views.{bare_parameter}
use Rattle.ls_class_programs.specs.Menus.{with_arguments}
use Rattle.ls_class_programs.proofs.arguments.with_arguments.Given as goal

abbrev pub invariant-loop-parameter : goal.invariant-loop-parameter
invariant-loop-parameter l = record {
  taken : map string_bytes l.all.items ≡
      with_arguments (map plain_text l.integers) (map string_bytes l.fn.begun.items)
      (map bare_parameter (take l.parameter-index l.parameters));
  few : length l.all.items ≤ 1000;
}
