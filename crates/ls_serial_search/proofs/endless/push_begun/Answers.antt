-- Why `push_begun` in src/endless.rt keeps its contract.

use Rattle.std.proofs.Common.{◌∙◌, ◌∷◌, ◌++◌, [], ap}
use Rattle.ls_checked.specs.Plain.{plain_file}
use Rattle.ls_checked.specs.PlainProgram.{plain_program}
use Rattle.ls_meaning.specs.Runs.{source_history}
use Rattle.ls_serial_search.specs.Following.{called}
use Rattle.ls_serial_search.specs.Histories.{lists_of}
use Rattle.ls_serial_search.proofs.NeverEnding.{lists_pushed}
use Rattle.ls_serial_search.proofs.endless.push_begun.Goals as goal

pub returns : goal.returns
returns c =
    ap lists_of c.in_ok-push.ensures.items ∙
    lists_pushed c.args.runs.now.items c.in_ok-begun.begun
    (source_history (plain_file c.args.task.now.file.now) (plain_program c.args.task.now.program.now)
    c.args.schedule.now ++ called c.args.thread c.args.call ∷ [])
    c.in_ok-begun.ensures
