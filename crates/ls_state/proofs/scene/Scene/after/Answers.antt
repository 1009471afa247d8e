-- Why `Scene::after` in src/scene.rt keeps its loop `thread`.

use Rattle.std.proofs.Common.{rules}
use Rattle.ls_checked.specs.Plain.{plain_file}
use Rattle.ls_checked.specs.PlainProgram.{plain_program}
use Rattle.ls_source.specs.Shown.{progress_of}
use Rattle.ls_state.proofs.Steps.{rest_step}
use Rattle.ls_state.proofs.scene.Scene.after.Goals as goal

pub loop-thread-preserved : goal.loop-thread-preserved
loop-thread-preserved c =
    let inv = c.loop-thread.invariant in
    let rest = rest_step (plain_file c.args.names.file.now) (plain_program c.args.names.program.now) c.args.steps.now
    (progress_of c.loop-thread.run) (progress_of c.step.new.self) c.loop-thread.labels.items
    c.keep_label.new.labels.items c.in_ok-did.did
    c.loop-thread.thread-index _ (search rules) c.in_ok-did.ensures.run c.in_ok-did.ensures.did
    c.in_ok-keep_label.ensures
    (record {
      file_is = inv.file;
      program_is = inv.program;
      state = inv.state;
      labels = inv.labels;
      history = inv.history;
    }) in
    record {
      file = rest.file_is;
      program = rest.program_is;
      state = rest.state;
      labels = rest.labels;
      history = rest.history;
    }
