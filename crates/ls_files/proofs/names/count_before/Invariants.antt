-- What the loop `count` of `count_before` in src/names.rt keeps, and why the loop ends.

use Rattle.std.proofs.Common.{◌≡◌, ◌+◌, ◌-◌, ◌≤◌, length, drop}
use Rattle.std.specs.List.{position_or_len}
use Rattle.ls_files.specs.Names.{is_names_word}
use Rattle.ls_files.proofs.names.count_before.Given as goal

abbrev pub invariant-loop-count : goal.invariant-loop-count
invariant-loop-count l =
    (l.count ≤ length l.words)
    × (position_or_len is_names_word l.words ≡ l.count + position_or_len is_names_word (drop l.count l.words))

abbrev pub decreases-loop-count : goal.decreases-loop-count
decreases-loop-count l = length l.words - l.count
