-- Why `page_command` in src/line.rt keeps its clause `shape`.

use Rattle.ls_command_line.proofs.line.page_command.Goals as goal

pub returns-clause-shape : goal.returns-clause-shape
returns-clause-shape c =
    let begun = c.with_option-command.ensures.shape _ _ c.class_command-command.ensures.shape
    c.number_option-from.ensures.rule in
    let ended = c.with_option-command-2.ensures.shape _ _ begun c.number_option-to.ensures.rule in
    let chosen = c.with_option-command-3.ensures.shape _ _ ended c.flag_option-choose.ensures.rule in
    let kept = c.with_option-command-4.ensures.shape _ _ chosen c.number_option-states.ensures.rule in
    c.with_reference.ensures.shape _ kept
