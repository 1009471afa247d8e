-- Why `with_reference` in src/line.rt keeps its clause `shape`.

use Rattle.ls_command_line.proofs.line.with_reference.Goals as goal

pub returns-clause-shape : goal.returns-clause-shape
returns-clause-shape c = λ a is. c.with_option.ensures.shape a _ is c.flag_option.ensures.rule
