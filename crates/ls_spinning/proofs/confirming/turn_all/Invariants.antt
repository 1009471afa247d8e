-- What the loop `at` of `turn_all` in src/confirming.rt keeps.
use Rattle.std.proofs.Common.{◌≡◌, ◌<◌, ℕ, Some, true}
use Rattle.std.specs.Prelude.{slice_get}
use Rattle.ls_spinning.proofs.confirming.turn_all.Given as goal

abbrev pub invariant-loop-at : goal.invariant-loop-at
invariant-loop-at l = record {
  left : (at : ℕ) → at < l.at → slice_get l.left at ≡ Some true;
  silent : (at : ℕ) → at < l.at → slice_get l.loud at ≡ Some true → ⊥;
}
