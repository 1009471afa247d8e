-- Calls by their items.
use Rattle.std.specs.Prelude.{◌≡◌, ℕ, ℤ, List, [], filter, unwrap_or}
use Rattle.std.specs.BTreeMap.{BTreeMap, get}
use Rattle.std.specs.Global.{Vec}
use Rattle.std.specs.Option.{option_map_or}
use Rattle.std.specs.Ordering.{int_cmp, int_eq}
use Rattle.ls_orders.specs.declared.calls.SetCall.{SetCall}
use Rattle.ls_order_search.specs.declared.items.Groups.{Groups}
use Rattle.ls_order_search.specs.Search.{CallsOf}

-- the calls that a map has on the item; none where the map lacks it
abbrev pub grouped : BTreeMap ℤ (Vec SetCall) → ℤ → List SetCall
grouped items item = option_map_or (λ v. v.items) (get int_cmp items item) []

-- how many a map counts on the item; none where the map lacks it
abbrev pub counted : BTreeMap ℤ ℕ → ℤ → ℕ
counted counts item = unwrap_or (get int_cmp counts item) 0

-- the map has the calls on each item, in their order
abbrev pub IsGrouped : BTreeMap ℤ (Vec SetCall) → List SetCall → Type 0
IsGrouped items calls = (item : ℤ) → grouped items item ≡ filter (λ c. int_eq c.item item) calls

-- the groups of the calls of `events` events
pub record AreGroups (events : ℕ) (groups : Groups) : Type 0 where
  pub calls : CallsOf events groups.calls.now
  pub grouped : IsGrouped groups.items groups.calls.now
