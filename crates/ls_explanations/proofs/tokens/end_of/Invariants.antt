-- What the loop `end` of `end_of` in src/tokens.rt keeps, and why the loop ends.

use Rattle.std.proofs.Common.{◌≡◌, ◌+◌, ◌≤◌, length, take}
use Rattle.std.specs.List.{suffix_len}
use Rattle.ls_lexer.specs.Characters.{is_white}
use Rattle.ls_explanations.proofs.tokens.end_of.Given as goal

abbrev pub invariant-loop-end : goal.invariant-loop-end
invariant-loop-end l =
    (l.end ≤ length l.text)
    × (l.end + suffix_len is_white l.text ≡ length l.text + suffix_len is_white (take l.end l.text))

abbrev pub decreases-loop-end : goal.decreases-loop-end
decreases-loop-end l = l.end
