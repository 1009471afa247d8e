-- What the loop `start` of `most_needed` in src/machine.rt keeps.

use Rattle.std.proofs.Common.{ℕ, ◌<◌, ◌≤◌, slice_index_or}
use Rattle.ls_code.specs.Code.{Start}
use Rattle.ls_machine.proofs.machine.most_needed.Given as goal

abbrev pub invariant-loop-start : goal.invariant-loop-start
invariant-loop-start l = (k : ℕ) (d : Start) → k < l.start-index → (slice_index_or l.starts k d).need ≤ l.most
