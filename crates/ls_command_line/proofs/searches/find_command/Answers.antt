-- Why `find_command` in src/searches.rt keeps its clause `shape`.

use Rattle.ls_command_line.proofs.searches.find_command.Goals as goal

pub returns-clause-shape : goal.returns-clause-shape
returns-clause-shape c =
    let waited = c.with_option-command.ensures.shape _ _ c.numbers_command-command.ensures.shape
    c.flag_option-waiting.ensures.rule in
    let turned = c.with_option-command-2.ensures.shape _ _ waited c.flag_option-turning.ensures.rule in
    let set = c.with_option-command-3.ensures.shape _ _ turned c.flag_option-set.ensures.rule in
    let strict = c.with_option-command-4.ensures.shape _ _ set c.flag_option-strict.ensures.rule in
    let races = c.with_option-command-5.ensures.shape _ _ strict c.flag_option-races.ensures.rule in
    let checked = c.with_option-command-6.ensures.shape _ _ races c.flag_option-check.ensures.rule in
    let progress = c.with_option-command-7.ensures.shape _ _ checked c.flag_option-progress.ensures.rule in
    c.with_reference.ensures.shape _ progress
