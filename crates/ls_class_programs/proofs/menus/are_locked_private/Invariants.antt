-- What the loop `modifiers` of `are_locked_private` in src/menus.rt keeps.

use Rattle.std.proofs.Common.{◌≡◌, false, map, take}
use Rattle.std.specs.List.{list_any}
use Rattle.ls_tree.specs.Views.{bare_modifiers}
use Rattle.ls_class_programs.specs.Menus.{is_private}
use Rattle.ls_class_programs.proofs.menus.are_locked_private.Given as goal

abbrev pub invariant-loop-modifiers : goal.invariant-loop-modifiers
invariant-loop-modifiers l =
    list_any (list_any is_private) (map bare_modifiers (take l.modifiers-index l.locked)) ≡ false
