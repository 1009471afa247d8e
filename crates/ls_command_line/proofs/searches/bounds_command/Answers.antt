-- Why `bounds_command` in src/searches.rt keeps its clause `shape`.

use Rattle.ls_command_line.proofs.searches.bounds_command.Goals as goal

pub returns-clause-shape : goal.returns-clause-shape
returns-clause-shape c =
    let one = c.with_option-command.ensures.shape _ _ c.class_command-command.ensures.shape
    c.number_option-threads.ensures.rule in
    let two = c.with_option-command-2.ensures.shape _ _ one c.number_option-calls.ensures.rule in
    let three = c.with_option-command-3.ensures.shape _ _ two c.number_option-setup.ensures.rule in
    let four = c.with_option-command-4.ensures.shape _ _ three c.number_option-values.ensures.rule in
    let five = c.with_option-command-5.ensures.shape _ _ four c.number_option-given.ensures.rule in
    c.with_option.ensures.shape _ _ five c.number_option-last_given.ensures.rule
