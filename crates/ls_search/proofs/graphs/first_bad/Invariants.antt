-- What the loop `at` of `first_bad` in src/graphs.rt keeps.
use Rattle.std.proofs.Common.{◌≡◌, ℕ, ◌<◌, Some, false, map}
use Rattle.std.specs.Prelude.{slice_get, slice_index_or}
use Rattle.ls_search.specs.declared.space.Kept.{Kept}
use Rattle.ls_search.proofs.graphs.first_bad.Given as goal

abbrev pub invariant-loop-at : goal.invariant-loop-at
invariant-loop-at g l =
    (at : ℕ) (n : Kept) → at < l.at → slice_get l.nodes at ≡ Some n →
    g.O.Observer.bad l.observer
    (slice_index_or (map (g.O.Observer.stands l.observer) l.pool.values.items) n.place.noted
    (g.O.Observer.first l.observer)) ≡ false
