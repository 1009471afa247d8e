-- What the loop `at` of `highest` in src/ranks.rt keeps.
use Rattle.std.proofs.Common.{◌≡◌, ◌<◌, ◌≤◌, ℕ, Some}
use Rattle.ls_progress.specs.Labels.{label_at}
use Rattle.ls_progress.specs.Ranks.{rank_at}
use Rattle.ls_progress.proofs.ranks.highest.Given as goal

abbrev pub invariant-loop-at : goal.invariant-loop-at
invariant-loop-at l = (k : ℕ) → k < l.at → label_at l.labels k ≡ Some l.call → rank_at l.ranks k ≤ l.most
