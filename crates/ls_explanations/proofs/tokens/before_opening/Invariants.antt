-- What the loop `end` of `before_opening` in src/tokens.rt keeps, and why the loop ends.

use Rattle.std.proofs.Common.{◌≡◌, ◌+◌, ◌-◌, ◌≤◌, length, drop}
use Rattle.std.specs.List.{position_or_len}
use Rattle.ls_explanations.specs.Tokens.{opens}
use Rattle.ls_explanations.proofs.tokens.before_opening.Given as goal

abbrev pub invariant-loop-end : goal.invariant-loop-end
invariant-loop-end l =
    (l.end ≤ length l.text) × (position_or_len opens l.text ≡ l.end + position_or_len opens (drop l.end l.text))

abbrev pub decreases-loop-end : goal.decreases-loop-end
decreases-loop-end l = length l.text - l.end
