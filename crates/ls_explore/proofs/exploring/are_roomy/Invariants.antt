-- What the loop `at` of `are_roomy` in src/exploring.rt keeps.

use Rattle.std.proofs.Common.{◌≡◌, ◌<◌, ℕ, false, slice_index_or}
use Rattle.ls_explore.specs.declared.searching.Seen.{Seen}
use Rattle.ls_explore.proofs.exploring.are_roomy.Given as goal

abbrev pub invariant-loop-at : goal.invariant-loop-at
invariant-loop-at l = (k : ℕ) (d : Seen) → k < l.at → (slice_index_or l.seen k d).stops ≡ false
