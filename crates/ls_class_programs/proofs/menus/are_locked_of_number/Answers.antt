-- Why `are_locked_of_number` in src/menus.rt keeps its contract.

use Rattle.std.proofs.Common.{◌≡◌, sym, refl, true, get_or, map, rules}
use Rattle.std.specs.List.{list_any}
use Rattle.std.proofs.lemmas.List.Recursion.{or_at}
use Rattle.ls_tree.specs.Views.{bare_modifiers}
use Rattle.ls_class_programs.specs.Menus.{is_of_number}
use Rattle.ls_class_programs.proofs.menus.are_locked_of_number.Goals as goal

pub returns-then-have_number : goal.returns-then-have_number
returns-then-have_number c =
    let found : list_any is_of_number (bare_modifiers (get_or c.args.locked.now c.loop-modifiers.modifiers-index
    c.modifiers-item.result)) ≡ true = search rules in
    sym (or_at (λ ms. list_any (list_any is_of_number) (map bare_modifiers ms))
    (λ m. list_any is_of_number (bare_modifiers m)) refl (λ _ _. refl) c.args.locked.now
    c.loop-modifiers.modifiers-index c.modifiers-item.result c.loop-modifiers-test.true found)
