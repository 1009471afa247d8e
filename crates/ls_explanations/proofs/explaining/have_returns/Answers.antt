-- Why `have_returns` in src/explaining.rt keeps its contract.

use Rattle.std.proofs.Common.{◌≡◌, sym, refl, true, get_or, map, rules}
use Rattle.std.specs.Prelude.{string_bytes}
use Rattle.std.specs.List.{list_any}
use Rattle.std.proofs.lemmas.List.Recursion.{or_at}
use Rattle.ls_explanations.specs.Explanations.{has_return}
use Rattle.ls_explanations.proofs.explaining.have_returns.Goals as goal

pub returns-then-contains : goal.returns-then-contains
returns-then-contains c =
    let found : has_return (string_bytes (get_or c.args.texts.now c.loop-text.text-index c.text-item.result)) ≡ true =
    search rules in
    sym (or_at (λ ts. list_any has_return (map string_bytes ts)) (λ t. has_return (string_bytes t)) refl (λ _ _. refl)
    c.args.texts.now c.loop-text.text-index c.text-item.result c.loop-text-test.true found)
