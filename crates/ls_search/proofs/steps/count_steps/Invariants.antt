-- What the loop `last` of `count_steps` in src/steps.rt keeps, and why the loop ends.

use Rattle.std.proofs.Common.{◌≤◌, ◌+◌, ◌<◌, length}
use Rattle.ls_search.proofs.steps.count_steps.Given as goal

abbrev pub invariant-loop-last : goal.invariant-loop-last
invariant-loop-last l = (l.place + l.count ≤ l.at) × (l.at < length l.nodes)

abbrev pub decreases-loop-last : goal.decreases-loop-last
decreases-loop-last l = l.place
