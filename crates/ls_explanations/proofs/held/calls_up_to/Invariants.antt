-- What the loop `name` of `calls_up_to` in src/held.rt keeps.

use Rattle.std.proofs.Common.{◌≡◌, ◌++◌, drop, map}
use Rattle.std.specs.HashMap.{get_by_text}
use Rattle.std.specs.List.{before_first, filter_map}
use Rattle.std.specs.Str.{bytes_eq}
use Rattle.ls_orders.specs.Orders.{plain_text}
use Rattle.ls_explanations.proofs.held.calls_up_to.Given as goal

abbrev pub invariant-loop-name : goal.invariant-loop-name
invariant-loop-name l =
    l.calls.items ++ filter_map (get_by_text l.names)
    (before_first (bytes_eq l.entry) (map plain_text (drop l.name-index l.order)))
    ≡ filter_map (get_by_text l.names) (before_first (bytes_eq l.entry) (map plain_text l.order))
