-- Why `explore_command` in src/searches.rt keeps its clause `shape`.

use Rattle.ls_command_line.proofs.searches.explore_command.Goals as goal

pub returns-clause-shape : goal.returns-clause-shape
returns-clause-shape c =
    let sorted = c.with_option-command.ensures.shape _ _ c.states_command-command.ensures.shape
    c.flag_option-illegal.ensures.rule in
    let first = c.with_option-command-2.ensures.shape _ _ sorted c.flag_option-first.ensures.rule in
    let order = c.with_option-command-3.ensures.shape _ _ first c.flag_option-order.ensures.rule in
    let progress = c.with_option-command-4.ensures.shape _ _ order c.flag_option-progress.ensures.rule in
    let verdict = c.with_option-command-5.ensures.shape _ _ progress c.flag_option-verdict.ensures.rule in
    let races = c.with_option-command-6.ensures.shape _ _ verdict c.flag_option-races.ensures.rule in
    let ends = c.with_option-command-7.ensures.shape _ _ races c.flag_option-ends.ensures.rule in
    let again = c.with_option-command-8.ensures.shape _ _ ends c.flag_option-again.ensures.rule in
    c.with_reference.ensures.shape _ again
