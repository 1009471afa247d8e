-- What the loop `place` of `paths_to` in src/paths.rt keeps.

use Rattle.std.proofs.Common.{◌≡◌, ◌+◌, ◌<◌, ℕ, length, map, Some}
use Rattle.std.specs.Prelude.{slice_get}
use Rattle.ls_choices.specs.Paths.{IsPathBy}
use Rattle.ls_choices.proofs.paths.paths_to.Given as goal

abbrev pub invariant-loop-place : goal.invariant-loop-place
invariant-loop-place g l = record {
  many : length l.paths.items ≡ l.place-index + 1;
  begins : slice_get (map (λ p. p.items) l.paths.items) 0 ≡ Some l.first;
  each : (i place : ℕ) → i < l.place-index → slice_get l.graph.by.items i ≡ Some place →
      IsPathBy l.graph.edges.items (map (λ p. p.items) l.paths.items) place (i + 1);
}
