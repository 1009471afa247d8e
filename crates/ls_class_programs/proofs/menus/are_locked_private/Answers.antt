-- Why `are_locked_private` in src/menus.rt keeps its contract.

use Rattle.std.proofs.Common.{◌≡◌, sym, refl, true, get_or, map, rules}
use Rattle.std.specs.List.{list_any}
use Rattle.std.proofs.lemmas.List.Recursion.{or_at}
use Rattle.ls_tree.specs.Views.{bare_modifiers}
use Rattle.ls_class_programs.specs.Menus.{is_private}
use Rattle.ls_class_programs.proofs.menus.are_locked_private.Goals as goal

pub returns-then-have_private : goal.returns-then-have_private
returns-then-have_private c =
    let found : list_any is_private (bare_modifiers (get_or c.args.locked.now c.loop-modifiers.modifiers-index
    c.modifiers-item.result)) ≡ true = search rules in
    sym (or_at (λ ms. list_any (list_any is_private) (map bare_modifiers ms))
    (λ m. list_any is_private (bare_modifiers m)) refl (λ _ _. refl) c.args.locked.now
    c.loop-modifiers.modifiers-index c.modifiers-item.result c.loop-modifiers-test.true found)
