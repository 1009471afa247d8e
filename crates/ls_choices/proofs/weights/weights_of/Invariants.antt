-- What the loop `number` of `weights_of` in src/weights.rt keeps.

use Rattle.std.proofs.Common.{◌≡◌, ◌+◌, ◌/◌, ◌<◌, ℕ, List, length, map, Some}
use Rattle.std.specs.Prelude.{slice_get}
use Rattle.ls_transitions.specs.Seen.{table_of}
use Rattle.ls_choices.specs.Points.{standing_at}
use Rattle.ls_choices.specs.Standing.{Standing}
use Rattle.ls_choices.proofs.weights.weights_of.Given as goal

abbrev pub invariant-loop-number : goal.invariant-loop-number
invariant-loop-number l = record {
  many : length l.weights.items ≡ l.number;
  each : (n : ℕ) (s : Standing) (path : List ℕ) → n < l.number →
      slice_get (map (standing_at (table_of l.transitions)) l.points) n ≡ Some s →
      slice_get (map (λ p. p.items) l.paths) n ≡ Some path →
      slice_get l.weights.items n ≡ Some (length s.configuration.store.things + length path / 16);
}
