-- Why `played_along` in src/playing.rt keeps its loop `thread`.

use Rattle.std.proofs.Common.{rules, subst, sym}
use Rattle.ls_checked.specs.CheckedTree.{File}
use Rattle.ls_checked.specs.CheckedProgram.{Program}
use Rattle.ls_checked.specs.Plain.{plain_file}
use Rattle.ls_checked.specs.PlainProgram.{plain_program}
use Rattle.ls_serial_search.proofs.Along.{StandsAt, steps_at, take_none}
use Rattle.ls_serial_search.proofs.playing.played_along.Goals as goal

pub loop-thread-init : goal.loop-thread-init
loop-thread-init c =
    let file : File = plain_file c.args.file.now in
    let program : Program = plain_program c.args.program.now in
    subst (StandsAt file program c.in_ok-run.run') (sym (take_none c.args.steps.now)) c.in_ok-run.ensures

pub loop-thread-preserved : goal.loop-thread-preserved
loop-thread-preserved c = steps_at (plain_file c.args.file.now) (plain_program c.args.program.now)
    c.args.steps.now c.loop-thread.thread-index 0 _ _ (search rules) c.loop-thread.invariant
    c.in_ok-_did.ensures.run
