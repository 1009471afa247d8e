-- What the loop `place` of `least_of` in src/cutting.rt keeps.

use Rattle.std.proofs.Common.{take}
use Rattle.ls_checked.specs.Plain.{plain_file}
use Rattle.ls_checked.specs.PlainProgram.{plain_program}
use Rattle.ls_verdicts.specs.Cuts.{IsLeastOf}
use Rattle.ls_explore_reports.specs.Cuts.{schedules_of}
use Rattle.ls_explore_reports.proofs.cutting.least_of.Given as goal

abbrev pub invariant-loop-place : goal.invariant-loop-place
invariant-loop-place l = IsLeastOf (plain_file l.names.file.now) (plain_program l.names.program.now)
    (schedules_of l.setup (take l.place l.judged)) l.least
