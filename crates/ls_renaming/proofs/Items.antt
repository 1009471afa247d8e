-- Arrays whose items name no object are the same whatever numbers objects have.
use Rattle.std.proofs.Common.{◌≡◌, ℕ, false, refl}
use Rattle.std.specs.Prelude.{unwrap_or, IfSome, Option, Some, None}
use Rattle.std.specs.Ordering.{nat_cmp}
use Rattle.std.specs.Map.{lookup}
use Rattle.std.specs.BTreeMap.{BTreeMap, is_at}
use Rattle.std.proofs.lemmas.Map.Entries.{All-lookup}
use std.Path.{fun_ext, sym, ap}
use Rattle.ls_events.specs.declared.value.Value.{Value}
use Rattle.ls_events.specs.declared.value.Value.TheVariants.{Boolean}
use Rattle.ls_meaning.specs.Renamings.{renamed}
use Rattle.ls_meaning.specs.Store.{Array}
use Rattle.ls_search_laws.specs.Renaming.{renamed_thing}
use Rattle.ls_source_store.specs.SeenThing.{items_of}
use Rattle.ls_renaming.specs.Nameless.{IsNameless, NameNoObject}
use Rattle.ls_renaming.specs.Seen.{names_of}
use Rattle.ls_renaming.specs.declared.names.Names.{Names}

item_renamed : (names : ℕ → ℕ) (found : Option Value) → IfSome found IsNameless →
    unwrap_or found (Boolean false) ≡ renamed names (unwrap_or found (Boolean false))
item_renamed names None h = refl
item_renamed names (Some v) h = sym (h names)

items_renamed : (names : ℕ → ℕ) (m : BTreeMap ℕ Value) → NameNoObject m.entries →
    items_of m ≡ (λ n. renamed names (items_of m n))
items_renamed names m h = fun_ext
    (λ n. item_renamed names (lookup (is_at (nat_cmp n)) m.entries)
    (All-lookup IsNameless (is_at (nat_cmp n)) m.entries h))

-- an array is itself under other numbers
pub array_renamed : (names : Names) (size : ℕ) (m : BTreeMap ℕ Value) → NameNoObject m.entries →
    Array size (items_of m) ≡ renamed_thing (names_of names) (Array size (items_of m))
array_renamed names size m h = ap (Array size) (items_renamed (names_of names) m h)
