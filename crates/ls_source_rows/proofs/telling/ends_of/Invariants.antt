-- What the loop `at` of `ends_of` in src/telling.rt keeps.

use Rattle.std.proofs.Common.{◌≡◌, ◌<◌, ℕ, Bool, Some, length}
use Rattle.std.specs.Prelude.{slice_get}
use Rattle.ls_source_rows.proofs.Pushing.{HasEnd}
use Rattle.ls_source_rows.proofs.telling.ends_of.Given as goal

abbrev pub invariant-loop-at : goal.invariant-loop-at
invariant-loop-at l = record {
  many : length l.ends.items ≡ l.at;
  each : (i : ℕ) (b : Bool) → i < l.at → HasEnd l.seen i b → slice_get l.ends.items i ≡ Some b;
}
