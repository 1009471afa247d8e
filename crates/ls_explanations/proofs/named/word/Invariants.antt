-- What the loop `end` of `word` in src/named.rt keeps, and why the loop ends.

use Rattle.std.proofs.Common.{◌≡◌, ◌+◌, ◌-◌, ◌≤◌, length, drop}
use Rattle.std.specs.List.{position_or_len}
use Rattle.ls_explanations.specs.Named.{ends_word}
use Rattle.ls_explanations.proofs.named.word.Given as goal

abbrev pub invariant-loop-end : goal.invariant-loop-end
invariant-loop-end l =
    (l.end ≤ length l.bytes) × (position_or_len ends_word l.bytes ≡ l.end + position_or_len ends_word
    (drop l.end l.bytes))

abbrev pub decreases-loop-end : goal.decreases-loop-end
decreases-loop-end l = length l.bytes - l.end
