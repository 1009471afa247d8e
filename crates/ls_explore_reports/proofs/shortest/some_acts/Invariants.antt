-- What the loop `thread` of `some_acts` in src/shortest.rt keeps.

use Rattle.std.proofs.Common.{◌≡◌}
use Rattle.ls_source.specs.Shown.{progress_of}
use Rattle.ls_explore_reports.proofs.shortest.some_acts.Given as goal

abbrev pub invariant-loop-thread : goal.invariant-loop-thread
invariant-loop-thread l = progress_of l.run ≡ progress_of l.fn.run
