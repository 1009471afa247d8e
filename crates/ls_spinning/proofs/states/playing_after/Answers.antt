-- Why `playing_after` in src/states.rt keeps its loop `thread`.

use Rattle.std.proofs.Common.{rules, take, subst}
use Rattle.ls_checked.specs.CheckedTree.{File}
use Rattle.ls_checked.specs.CheckedProgram.{Program}
use Rattle.ls_checked.specs.Plain.{plain_file}
use Rattle.ls_checked.specs.PlainProgram.{plain_program}
use Rattle.ls_source.specs.Progress.{Progress}
use Rattle.ls_source.specs.Stands.{StandsFor}
use Rattle.ls_search.specs.Runs.{progress_at}
use Rattle.ls_spinning.proofs.Staying.{gone_next}
use Rattle.ls_spinning.proofs.states.playing_after.Goals as goal

pub loop-thread-preserved : goal.loop-thread-preserved
loop-thread-preserved c =
    let file : File = plain_file c.args.file.now in
    let program : Program = plain_program c.args.program.now in
    subst (λ (q : Progress). StandsFor c.step.new.self q)
    (gone_next file program c.args.steps.now c.loop-thread.thread-index _ (search rules))
    (c.in_ok-_did.ensures.run (progress_at file program (take c.loop-thread.thread-index c.args.steps.now))
    c.loop-thread.invariant)
