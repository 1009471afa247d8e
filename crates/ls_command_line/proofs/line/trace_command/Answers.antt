-- Why `trace_command` in src/line.rt keeps its clause `shape`.

use Rattle.ls_command_line.proofs.line.trace_command.Goals as goal

pub returns-clause-shape : goal.returns-clause-shape
returns-clause-shape c =
    let begun = c.with_option-command.ensures.shape _ _ c.class_command-command.ensures.shape
    c.number_option-from.ensures.rule in
    let ended = c.with_option-command-2.ensures.shape _ _ begun c.number_option-to.ensures.rule in
    c.with_option.ensures.shape _ _ ended c.flag_option-fold.ensures.rule
