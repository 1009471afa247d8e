-- What `search` in src/searching.rt keeps, and why it ends.

use Rattle.std.proofs.Common.{length, ◌-◌, ◌<◌, ◌≤◌}
use Rattle.ls_order_search.specs.Pools.{Holds}
use Rattle.ls_order_search.specs.Search.{Calls, Open, held}
use Rattle.ls_order_search.proofs.searching.search.Given as goal

abbrev pub invariant-due : goal.invariant-due
invariant-due l = (l.at < l.events) × (pool : Calls) × Holds l.pool pool ×
    Open l.events l.calls l.at l.next (held l.set) pool l.placed.items l.end

abbrev pub decreases-due : goal.decreases-due
decreases-due l = length l.calls - l.next

abbrev pub invariant-places : goal.invariant-places
invariant-places l = (l.at ≤ l.events) × (pool : Calls) × Holds l.pool pool ×
    Open l.events l.calls l.at l.next (held l.set) pool l.placed.items l.end

abbrev pub decreases-places : goal.decreases-places
decreases-places l = l.events - l.at
