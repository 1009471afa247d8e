-- What the loop `thread` of `Scene::after` in src/scene.rt keeps.

use Rattle.std.proofs.Common.{◌≡◌, drop}
use Rattle.ls_checked.specs.Plain.{plain_file}
use Rattle.ls_checked.specs.PlainProgram.{plain_program}
use Rattle.ls_meaning.specs.Runs.{source_run, source_trace, source_history}
use Rattle.ls_source.specs.Shown.{progress_of}
use Rattle.ls_source.proofs.Histories.{rest_of}
use Rattle.ls_labels.specs.Labels.{labels_of}
use Rattle.ls_state.proofs.Steps.{end_of, labels_after}
use Rattle.ls_state.proofs.scene.Scene.after.Given as goal

abbrev pub invariant-loop-thread : goal.invariant-loop-thread
invariant-loop-thread l = record {
  file : (progress_of l.run).file ≡ plain_file l.names.file.now;
  program : (progress_of l.run).program ≡ plain_program l.names.program.now;
  state : end_of (plain_file l.names.file.now) (plain_program l.names.program.now) (progress_of l.run).state
      (drop l.thread-index l.steps)
      ≡ source_run (plain_file l.names.file.now) (plain_program l.names.program.now) l.steps;
  labels : labels_after (plain_file l.names.file.now) (plain_program l.names.program.now) (progress_of l.run).state
      l.labels.items (drop l.thread-index l.steps)
      ≡ labels_of (source_trace (plain_file l.names.file.now) (plain_program l.names.program.now) l.steps);
  history : rest_of (progress_of l.run) (drop l.thread-index l.steps)
      ≡ source_history (plain_file l.names.file.now) (plain_program l.names.program.now) l.steps;
}
