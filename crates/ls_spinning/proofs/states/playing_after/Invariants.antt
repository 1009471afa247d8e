-- What the loop `thread` of `playing_after` in src/states.rt keeps.

use Rattle.std.proofs.Common.{take}
use Rattle.ls_checked.specs.Plain.{plain_file}
use Rattle.ls_checked.specs.PlainProgram.{plain_program}
use Rattle.ls_search.specs.Runs.{progress_at}
use Rattle.ls_source.specs.Stands.{StandsFor}
use Rattle.ls_spinning.proofs.states.playing_after.Given as goal

abbrev pub invariant-loop-thread : goal.invariant-loop-thread
invariant-loop-thread l =
    StandsFor l.playing (progress_at (plain_file l.file) (plain_program l.program) (take l.thread-index l.steps))
