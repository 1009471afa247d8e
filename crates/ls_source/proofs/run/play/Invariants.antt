-- What the loop `thread` of `play` in src/run.rt keeps.

use Rattle.std.proofs.Common.{drop}
use Rattle.ls_checked.specs.Plain.{plain_file}
use Rattle.ls_checked.specs.PlainProgram.{plain_program}
use Rattle.ls_meaning.specs.Runs.{source_history}
use Rattle.ls_source.proofs.Standing.{SoFar}
use Rattle.ls_source.proofs.run.play.Given as goal

abbrev pub invariant-loop-thread : goal.invariant-loop-thread
invariant-loop-thread l =
    SoFar l.run (drop l.thread-index l.steps) (source_history (plain_file l.file) (plain_program l.program) l.steps)
