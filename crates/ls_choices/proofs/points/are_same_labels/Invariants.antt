-- What the loop `i` of `are_same_labels` in src/points.rt keeps.

use Rattle.std.proofs.Common.{◌≡◌, take}
use Rattle.ls_choices.proofs.points.are_same_labels.Given as goal

abbrev pub invariant-loop-i : goal.invariant-loop-i
invariant-loop-i l = take l.i l.labels ≡ take l.i l.others
