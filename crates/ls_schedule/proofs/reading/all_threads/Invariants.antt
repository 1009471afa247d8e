-- What the loop `before` of `all_threads` in src/reading.rt keeps.

use Rattle.std.proofs.Common.{◌≡◌}
use Rattle.std.specs.List.{range_with_len}
use Rattle.ls_schedule.proofs.reading.all_threads.Given as goal

abbrev pub invariant-loop-before : goal.invariant-loop-before
invariant-loop-before l = l.all.items ≡ range_with_len 1 l.before
