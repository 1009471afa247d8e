-- Why `Reader::pass_word` in src/groups.rt keeps its clause `passes`.

use Rattle.std.proofs.Common.{length, map}
use Rattle.ls_schedule.specs.Answers.{so_far}
use Rattle.ls_schedule.specs.Reading.{thread_name}
use Rattle.ls_schedule.proofs.Digits.{fails_of}
use Rattle.ls_schedule.proofs.Passed.{word_fails, word_passes}
use Rattle.ls_schedule.proofs.groups.Reader.pass_word.Goals as goal

pub returns-in_ok-add_item-in-Ok-clause-passes : goal.returns-in_ok-add_item-in-Ok-clause-passes
returns-in_ok-add_item-in-Ok-clause-passes c all =
    let p = word_passes (map thread_name c.args.threads.now) c.args.self.now.open_groups.items c.args.self.now.filled
    (so_far c.args.self.now.fits c.args.self.now.schedule) c.args.at c.args.text.now
    c.requires.some c.word_len-len.result _ _ _ c.requires.first c.word_len-len.ensures.len c.split_at.ensures.front
    c.split_at.ensures.back c.begins_group.ensures
    _ _ _ _ c.in-Ok.ensures c.in_ok-add_item-in-Ok.ensures.groups c.in_ok-add_item-in-Ok.ensures.filled
    (c.in_ok-add_item-in-Ok.ensures.steps (length c.args.threads.now) all) in
    (p.0, p.1, c.word_len-len.ensures.within)

pub returns-in-Err-clause-passes : goal.returns-in-Err-clause-passes
returns-in-Err-clause-passes c all =
    fails_of _ _ (word_fails (map thread_name c.args.threads.now) c.args.self.now.open_groups.items
    c.args.self.now.filled (so_far c.args.self.now.fits c.args.self.now.schedule) c.args.at c.args.text.now
    c.requires.some c.word_len-len.result _ _ _ c.requires.first c.word_len-len.ensures.len c.split_at.ensures.front
    c.split_at.ensures.back c.begins_group.ensures
    _ _ _ c.in-Err.ensures c.as_slice.ensures.value c.outermost_fault.ensures)
