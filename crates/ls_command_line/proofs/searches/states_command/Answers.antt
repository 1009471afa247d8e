-- Why `states_command` in src/searches.rt keeps its clause `shape`.

use Rattle.ls_command_line.proofs.searches.states_command.Goals as goal

pub returns-clause-shape : goal.returns-clause-shape
returns-clause-shape c =
    let celled = c.with_option-command.ensures.shape _ _ c.class_command-command.ensures.shape
    c.machine_option.ensures.rule in
    c.with_option.ensures.shape _ _ celled c.number_option-states.ensures.rule
