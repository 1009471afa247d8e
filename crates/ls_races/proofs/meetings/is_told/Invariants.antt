-- What the loop `kind` of `is_told` in src/meetings.rt keeps.
use Rattle.std.proofs.Common.{◌≡◌, ◌≢◌, ◌<◌, ℕ, Some, slice_get}
use Rattle.ls_race_laws.specs.declared.access.Kind.{Kind}
use Rattle.ls_races.proofs.meetings.is_told.Given as goal

abbrev pub invariant-loop-kind : goal.invariant-loop-kind
invariant-loop-kind l = (j : ℕ) (k : Kind) → j < l.kind-index → slice_get l.told j ≡ Some k → k ≢ l.on
