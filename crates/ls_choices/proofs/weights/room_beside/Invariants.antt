-- What the loop `weight` of `room_beside` in src/weights.rt keeps.

use Rattle.std.proofs.Common.{◌≡◌, ◌+◌, ◌-◌, take}
use Rattle.std.specs.Prelude.{sum_by}
use Rattle.ls_choices.specs.Rows.{most_weight}
use Rattle.ls_choices.proofs.weights.room_beside.Given as goal

abbrev pub invariant-loop-weight : goal.invariant-loop-weight
invariant-loop-weight l = l.room ≡ most_weight + 1 - sum_by (λ w. w) (take l.weight-index l.weights)
