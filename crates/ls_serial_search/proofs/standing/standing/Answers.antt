-- Why `standing` in src/standing.rt keeps its contract.

use Rattle.std.proofs.Common.{subst}
use Rattle.ls_checked.specs.Plain.{plain_file}
use Rattle.ls_checked.specs.PlainProgram.{plain_program}
use Rattle.ls_serial_search.specs.Parked.{IsParked}
use Rattle.ls_serial_search.proofs.standing.standing.Goals as goal

pub returns-in_ok-copied-in-Some : goal.returns-in_ok-copied-in-Some
returns-in_ok-copied-in-Some c = c.in_ok-copied-in-Some.ensures _
    (subst (IsParked (plain_file c.args.task.now.file.now) (plain_program c.args.task.now.program.now)
    c.args.schedule.now) c.in-Some.is c.requires)
