-- What the loop `modifier` of `have_volatile` in src/flags.rt keeps.

use Rattle.std.proofs.Common.{◌≡◌, false, map, take}
use Rattle.std.specs.List.{list_any}
use Rattle.ls_tree.specs.Views.{bare_modifier}
use Rattle.ls_races.specs.Flags.{is_volatile}
use Rattle.ls_races.proofs.flags.have_volatile.Given as goal

abbrev pub invariant-loop-modifier : goal.invariant-loop-modifier
invariant-loop-modifier l = list_any is_volatile (map bare_modifier (take l.modifier-index l.modifiers)) ≡ false
