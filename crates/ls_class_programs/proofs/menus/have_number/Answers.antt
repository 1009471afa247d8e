-- Why `have_number` in src/menus.rt keeps its contract.

use Rattle.std.proofs.Common.{◌≡◌, sym, refl, true, get_or, map, rules}
use Rattle.std.specs.List.{list_any}
use Rattle.std.proofs.lemmas.List.Recursion.{or_at}
use Rattle.ls_tree.specs.Views.{bare_modifier}
use Rattle.ls_class_programs.specs.Menus.{is_of_number}
use Rattle.ls_class_programs.proofs.menus.have_number.Goals as goal

pub returns-then-is_of_number : goal.returns-then-is_of_number
returns-then-is_of_number c =
    let found : is_of_number (bare_modifier (get_or c.args.modifiers.now c.loop-modifier.modifier-index
    c.modifier-item.result)) ≡ true = search rules in
    sym (or_at (λ ms. list_any is_of_number (map bare_modifier ms)) (λ m. is_of_number (bare_modifier m)) refl
    (λ _ _. refl) c.args.modifiers.now c.loop-modifier.modifier-index c.modifier-item.result
    c.loop-modifier-test.true found)
