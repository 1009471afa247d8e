-- Why `sample_command` in src/line.rt keeps its clause `shape`.

use Rattle.ls_command_line.proofs.line.sample_command.Goals as goal

pub returns-clause-shape : goal.returns-clause-shape
returns-clause-shape c =
    let seeded = c.with_option-command.ensures.shape _ _ c.class_command-command.ensures.shape
    c.number_option-seed.ensures.rule in
    let stepped = c.with_option.ensures.shape _ _ seeded c.number_option-steps.ensures.rule in
    let switched = c.with_option-command-2.ensures.shape _ _ stepped c.switch_option.ensures.rule in
    c.with_option-2.ensures.shape _ _ switched c.cells_option.ensures.rule
