-- Why `have_volatile` in src/flags.rt keeps its contract.

use Rattle.std.proofs.Common.{◌≡◌, sym, refl, true, get_or, map, rules}
use Rattle.std.specs.List.{list_any}
use Rattle.std.proofs.lemmas.List.Recursion.{or_at}
use Rattle.ls_tree.specs.Views.{bare_modifier}
use Rattle.ls_races.specs.Flags.{is_volatile}
use Rattle.ls_races.proofs.flags.have_volatile.Goals as goal

pub returns-then-is_volatile : goal.returns-then-is_volatile
returns-then-is_volatile c =
    let found : is_volatile (bare_modifier (get_or c.args.modifiers.now c.loop-modifier.modifier-index
    c.modifier-item.result)) ≡ true = search rules in
    sym (or_at (λ ms. list_any is_volatile (map bare_modifier ms)) (λ m. is_volatile (bare_modifier m)) refl
    (λ _ _. refl) c.args.modifiers.now c.loop-modifier.modifier-index c.modifier-item.result
    c.loop-modifier-test.true found)
