-- Why `unsure_answer` in src/deciding.rt keeps its contract.

use Rattle.ls_explore_commands.specs.Verdicts.{IsUnsure}
use Rattle.ls_explore_commands.proofs.Decisions.{tells}
use Rattle.ls_explore_commands.proofs.deciding.unsure_answer.Goals as goal

pub returns : goal.returns
returns c = λ classes sfile sprogram good extent linear free.
    let e = c.args.extent in
    tells classes sfile sprogram c.args.image.now e.limit _ _ c.in_ok-text.ensures
    (IsUnsure e.states e.complete good extent linear free)
