-- Why `state_command` in src/line.rt keeps its clause `shape`.

use Rattle.ls_command_line.proofs.line.state_command.Goals as goal

pub returns-clause-shape : goal.returns-clause-shape
returns-clause-shape c =
    let drawn = c.with_option-command.ensures.shape _ _ c.class_command-command.ensures.shape
    c.flag_option-dot.ensures.rule in
    let each = c.with_option-command-2.ensures.shape _ _ drawn c.flag_option-each.ensures.rule in
    let begun = c.with_option-command-3.ensures.shape _ _ each c.number_option-from.ensures.rule in
    c.with_option.ensures.shape _ _ begun c.number_option-to.ensures.rule
