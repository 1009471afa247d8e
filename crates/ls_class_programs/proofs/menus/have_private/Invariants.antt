-- What the loop `modifier` of `have_private` in src/menus.rt keeps.

use Rattle.std.proofs.Common.{◌≡◌, false, map, take}
use Rattle.std.specs.List.{list_any}
use Rattle.ls_tree.specs.Views.{bare_modifier}
use Rattle.ls_class_programs.specs.Menus.{is_private}
use Rattle.ls_class_programs.proofs.menus.have_private.Given as goal

abbrev pub invariant-loop-modifier : goal.invariant-loop-modifier
invariant-loop-modifier l = list_any is_private (map bare_modifier (take l.modifier-index l.modifiers)) ≡ false
