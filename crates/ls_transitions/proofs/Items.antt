-- The items of arrays by those that have been written.
use Rattle.std.proofs.Common.{◌≡◌, ℕ, false, List, ap}
use Rattle.std.specs.Prelude.{unwrap_or}
use Rattle.std.specs.Ordering.{nat_cmp}
use Rattle.std.specs.Map.{lookup}
use Rattle.std.specs.BTreeMap.{BTreeMap, is_at}
use Rattle.ls_events.specs.declared.value.Value.{Value}
use Rattle.ls_events.specs.declared.value.Value.TheVariants.{Boolean}
use Rattle.ls_source_store.specs.SeenThing.{items_of}

-- those that are written at the same indices are the same
pub same_items : (a b : BTreeMap ℕ Value) → a.entries ≡ b.entries → items_of a ≡ items_of b
same_items a b e =
    let items : List (ℕ × Value) → ℕ → Value = λ es i. unwrap_or (lookup (is_at (nat_cmp i)) es) (Boolean false) in
    ap items e
