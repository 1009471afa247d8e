-- What the loop `thread` of `run_after` in src/acting.rt keeps.

use Rattle.std.proofs.Common.{◌≡◌, take}
use Rattle.ls_checked.specs.Plain.{plain_file}
use Rattle.ls_checked.specs.PlainProgram.{plain_program}
use Rattle.ls_search.specs.Runs.{progress_at}
use Rattle.ls_source.specs.Shown.{progress_of}
use Rattle.ls_fewest_switches.specs.Acting.{acting}
use Rattle.ls_fewest_switches.proofs.acting.run_after.Given as goal

abbrev pub invariant-loop-thread : goal.invariant-loop-thread
invariant-loop-thread l = record {
  run : progress_of l.run ≡ progress_at (plain_file l.file) (plain_program l.program) (take l.thread-index l.steps);
  kept : l.kept.items ≡ acting (plain_file l.file) (plain_program l.program) (take l.thread-index l.steps);
}
