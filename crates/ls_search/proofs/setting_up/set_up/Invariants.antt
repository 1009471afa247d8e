-- What the loop `steps` of `set_up` in src/setting_up.rt keeps.

use Rattle.std.proofs.Common.{replicate}
use Rattle.ls_checked.specs.Plain.{plain_file}
use Rattle.ls_checked.specs.PlainProgram.{plain_program}
use Rattle.ls_search_laws.specs.Stepping.{SetsUp}
use Rattle.ls_source.specs.Stands.{StandsFor}
use Rattle.ls_search.specs.Runs.{progress_at}
use Rattle.ls_search.proofs.setting_up.set_up.Given as goal

abbrev pub invariant-loop-steps : goal.invariant-loop-steps
invariant-loop-steps l = record {
  stands : StandsFor l.playing (progress_at (plain_file l.file) (plain_program l.program) (replicate l.steps 0));
  up : SetsUp (plain_file l.file) (plain_program l.program) l.steps;
}
