-- What a run stands for that keeps no answers.
use Rattle.std.specs.Prelude.{◌≡◌, List, length, map}
use Rattle.ls_checked.specs.Plain.{plain_file}
use Rattle.ls_checked.specs.PlainProgram.{plain_program}
use Rattle.ls_meaning.specs.Course.{Answers}
use Rattle.ls_source.specs.declared.playing.Playing.{Playing}
use Rattle.ls_source.specs.Progress.{Progress}
use Rattle.ls_source.specs.SeenRun.{state_of}
use Rattle.ls_source.specs.SeenThread.{thread_of}
use Rattle.ls_source.specs.Kept.{IsKept}

-- what such a run shows, with answers that its threads may have had
abbrev pub progress_with : Playing → List Answers → Progress
progress_with r had = record {
  file = plain_file r.file.now;
  program = plain_program r.program.now;
  state = state_of r.store_and_events had;
  history = r.store_and_events.events.items;
}

-- It stands for a run so far, if it shows that run. The work of each thread then means what the thread does after the
-- answers that it has had there.
pub record StandsFor (r : Playing) (p : Progress) : Type 0 where
  pub shows : progress_with r p.state.answers ≡ p
  pub lists : length p.state.answers ≡ length r.program.now.threads.items
  pub kept : IsKept (plain_file r.file.now) (plain_program r.program.now) (map thread_of r.threads.items)
      p.state.answers
