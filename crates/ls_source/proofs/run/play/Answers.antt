-- Why `play` in src/run.rt keeps its loop `thread`.

use Rattle.std.proofs.Common.{rules, refl}
use Rattle.ls_checked.specs.Plain.{plain_file}
use Rattle.ls_checked.specs.PlainProgram.{plain_program}
use Rattle.ls_source.specs.Progress.{begun, gone_on}
use Rattle.ls_source.proofs.Histories.{rest_after}
use Rattle.ls_source.proofs.run.play.Goals as goal

pub loop-thread-init : goal.loop-thread-init
loop-thread-init c = record {
  run = begun (plain_file c.args.file.now) (plain_program c.args.program.now);
  stands = c.in_ok-run.ensures;
  rest = refl;
}

pub loop-thread-preserved : goal.loop-thread-preserved
loop-thread-preserved c =
    let so = c.loop-thread.invariant in
    record {
      run = gone_on so.run _;
      stands = c.in_ok-_did.ensures.run so.run so.stands;
      rest = rest_after so.run _ c.args.steps.now c.loop-thread.thread-index _ _ (search rules) refl so.rest;
    }
