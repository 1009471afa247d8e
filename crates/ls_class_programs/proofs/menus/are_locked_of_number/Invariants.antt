-- What the loop `modifiers` of `are_locked_of_number` in src/menus.rt keeps.

use Rattle.std.proofs.Common.{◌≡◌, false, map, take}
use Rattle.std.specs.List.{list_any}
use Rattle.ls_tree.specs.Views.{bare_modifiers}
use Rattle.ls_class_programs.specs.Menus.{is_of_number}
use Rattle.ls_class_programs.proofs.menus.are_locked_of_number.Given as goal

abbrev pub invariant-loop-modifiers : goal.invariant-loop-modifiers
invariant-loop-modifiers l =
    list_any (list_any is_of_number) (map bare_modifiers (take l.modifiers-index l.locked)) ≡ false
