-- What the loop `start` of `last_name` in src/tokens.rt keeps, and why the loop ends.

use Rattle.std.proofs.Common.{◌≡◌, ◌+◌, ◌≤◌, length, take}
use Rattle.std.specs.List.{suffix_len}
use Rattle.ls_lexer.specs.Characters.{is_part}
use Rattle.ls_explanations.proofs.tokens.last_name.Given as goal

abbrev pub invariant-loop-start : goal.invariant-loop-start
invariant-loop-start l =
    (l.start ≤ length l.text)
    × (l.start + suffix_len is_part l.text ≡ length l.text + suffix_len is_part (take l.start l.text))

abbrev pub decreases-loop-start : goal.decreases-loop-start
decreases-loop-start l = l.start
