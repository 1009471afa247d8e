-- What the loop `modifier` of `have_number` in src/menus.rt keeps.

use Rattle.std.proofs.Common.{◌≡◌, false, map, take}
use Rattle.std.specs.List.{list_any}
use Rattle.ls_tree.specs.Views.{bare_modifier}
use Rattle.ls_class_programs.specs.Menus.{is_of_number}
use Rattle.ls_class_programs.proofs.menus.have_number.Given as goal

abbrev pub invariant-loop-modifier : goal.invariant-loop-modifier
invariant-loop-modifier l = list_any is_of_number (map bare_modifier (take l.modifier-index l.modifiers)) ≡ false
