-- Why `order_command` in src/line.rt keeps its clause `shape`.

use Rattle.ls_command_line.proofs.line.order_command.Goals as goal

pub returns-clause-shape : goal.returns-clause-shape
returns-clause-shape c = c.with_reference.ensures.shape _ c.class_command-command.ensures.shape
