-- Why `live_command` in src/line.rt keeps its clause `shape`.

use Rattle.ls_command_line.proofs.line.live_command.Goals as goal

pub returns-clause-shape : goal.returns-clause-shape
returns-clause-shape c =
    c.with_option-2.ensures.shape _ _
    (c.with_option.ensures.shape _ _ c.class_command-command.ensures.shape c.cells_option.ensures.rule)
    c.number_option-limit.ensures.rule
