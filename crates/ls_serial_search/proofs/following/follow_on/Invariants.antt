-- What the loop `steps` of `follow_on` in src/following.rt keeps.

use Rattle.std.proofs.Common.{◌++◌, replicate}
use Rattle.ls_checked.specs.CheckedTree.{File}
use Rattle.ls_checked.specs.CheckedProgram.{Program}
use Rattle.ls_checked.specs.Plain.{plain_file}
use Rattle.ls_checked.specs.PlainProgram.{plain_program}
use Rattle.ls_serial_search.specs.Following.{IsBegun}
use Rattle.ls_serial_search.specs.Happened.{ActsFor}
use Rattle.ls_serial_search.proofs.Along.{StandsAt}
use Rattle.ls_serial_search.proofs.ComingBack.{IsMarked}
use Rattle.ls_serial_search.proofs.Within.{IsInside}
use Rattle.ls_serial_search.proofs.following.follow_on.Given as goal

abbrev pub invariant-loop-steps : goal.invariant-loop-steps
invariant-loop-steps l =
    let file : File = plain_file l.next.task.now.file.now in
    let program : Program = plain_program l.next.task.now.program.now in
    record {
      at : StandsAt file program l.run (l.next.schedule.now ++ replicate l.steps l.next.thread);
      acts : ActsFor file program l.next.schedule.now l.next.thread l.steps;
      inside : IsInside file program (l.next.schedule.now ++ replicate l.steps l.next.thread) l.next.thread l.call;
      begun : IsBegun file program l.next.schedule.now l.next.thread l.call l.steps;
      marked : IsMarked file program l.next.schedule.now l.next.thread l.mark l.steps;
    }
