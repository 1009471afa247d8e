-- What the loop `at` of `ends_of` in src/table.rt keeps.

use Rattle.std.proofs.Common.{◌≡◌, ◌<◌, ℕ, Bool, Some, length}
use Rattle.std.specs.Prelude.{slice_get}
use Rattle.ls_explore.proofs.Listing.{IsEndAt}
use Rattle.ls_explore.proofs.table.ends_of.Given as goal

abbrev pub invariant-loop-at : goal.invariant-loop-at
invariant-loop-at l = record {
  many : length l.ends.items ≡ l.at;
  each : (i : ℕ) (b : Bool) → i < l.at → IsEndAt l.seen i b → slice_get l.ends.items i ≡ Some b;
}
