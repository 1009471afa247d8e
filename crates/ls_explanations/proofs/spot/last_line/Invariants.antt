-- What the loop `start` of `last_line` in src/spot.rt keeps, and why the loop ends.

use Rattle.std.proofs.Common.{◌≡◌, ◌+◌, ◌≤◌, length, take, not}
use Rattle.std.specs.List.{suffix_len}
use Rattle.ls_explanations.specs.Spots.{is_feed}
use Rattle.ls_explanations.proofs.spot.last_line.Given as goal

abbrev pub invariant-loop-start : goal.invariant-loop-start
invariant-loop-start l =
    (l.start ≤ length l.bytes)
    × (l.start + suffix_len (λ b. not (is_feed b)) l.bytes ≡ length l.bytes + suffix_len (λ b. not (is_feed b))
    (take l.start l.bytes))

abbrev pub decreases-loop-start : goal.decreases-loop-start
decreases-loop-start l = l.start
