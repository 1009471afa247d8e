-- What the loop `count` of `setting_of` in src/setting.rt keeps.

use Rattle.ls_checked.specs.Plain.{plain_file}
use Rattle.ls_checked.specs.PlainProgram.{plain_program}
use Rattle.ls_source.specs.Shown.{progress_of}
use Rattle.ls_explore.proofs.Settings.{IsAfter}
use Rattle.ls_explore.proofs.setting.setting_of.Given as goal

abbrev pub invariant-loop-count : goal.invariant-loop-count
invariant-loop-count l = IsAfter (plain_file l.file) (plain_program l.program) l.count (progress_of l.run)
