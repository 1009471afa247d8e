-- Why `class_command` in src/line.rt keeps its clause `shape`.

use Rattle.ls_command_line.proofs.line.class_command.Goals as goal

pub returns-clause-shape : goal.returns-clause-shape
returns-clause-shape c =
    c.with_option.ensures.shape _ _ c.plain_command-command.ensures.shape c.flag_option.ensures.rule
