-- What the loop `thread` of `Runner::after` in src/runner.rt keeps.

use Rattle.std.proofs.Common.{◌≡◌, drop}
use Rattle.ls_labels.specs.Names.{names_of}
use Rattle.ls_aim.specs.Runs.{after, run_of}
use Rattle.ls_aim.specs.Seen.{RunsNamed, names_in, run_in}
use Rattle.ls_aim.proofs.runner.Runner.after.Given as goal

abbrev pub invariant-loop-thread : goal.invariant-loop-thread
invariant-loop-thread l = record {
  names : names_in l.runner ≡ names_of l.fn.names;
  runs : RunsNamed l.runner;
  run : after (names_of l.fn.names) (run_in l.runner) (drop l.thread-index l.steps) ≡ run_of (names_of l.fn.names)
      l.steps;
}
