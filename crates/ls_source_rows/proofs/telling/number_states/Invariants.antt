-- What the loop `at` of `number_states` in src/telling.rt keeps.

use Rattle.std.proofs.Common.{◌≡◌, ◌<◌, ℕ, Some, length}
use Rattle.std.specs.Prelude.{slice_get}
use Rattle.ls_source_rows.proofs.Pushing.{HasNumber}
use Rattle.ls_source_rows.proofs.telling.number_states.Given as goal

abbrev pub invariant-loop-at : goal.invariant-loop-at
invariant-loop-at l = record {
  many : length l.each.items ≡ l.at;
  each : (i number : ℕ) → i < l.at → HasNumber l.numbers l.nodes i number → slice_get l.each.items i ≡ Some number;
}
