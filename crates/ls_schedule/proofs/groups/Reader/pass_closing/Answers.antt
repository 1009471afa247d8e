-- Why `Reader::pass_closing` in src/groups.rt keeps its clause `passes`.

use Rattle.std.proofs.Common.{arith}
use Rattle.ls_schedule.specs.Answers.{so_far}
use Rattle.ls_schedule.proofs.Digits.{fails_of}
use Rattle.ls_schedule.proofs.Passed.{closing_fails, closing_passes}
use Rattle.ls_schedule.proofs.groups.Reader.pass_closing.Goals as goal

pub returns-in_ok-close_group-in-Ok-clause-passes : goal.returns-in_ok-close_group-in-Ok-clause-passes
returns-in_ok-close_group-in-Ok-clause-passes c names = (
  closing_passes names _ c.args.self.now.filled (so_far c.args.self.now.fits c.args.self.now.schedule) c.args.at
      c.args.text.now c.requires.some
      c.word_len-len.result _ _ c.in-Some.group c.args.self.now.open_groups.items c.requires.first
      c.in-Some.ensures.items c.split_at.ensures.back c.word_len-len.ensures.len c.split_at-2.ensures.back
      _ _ _ _ c.in-Ok.ensures c.in_ok-close_group-in-Ok.ensures.groups c.in_ok-close_group-in-Ok.ensures.filled
      c.in_ok-close_group-in-Ok.ensures.steps,
  omega arith,
  omega arith,
)

pub returns-in-Err-clause-passes : goal.returns-in-Err-clause-passes
returns-in-Err-clause-passes c names =
    fails_of _ _ (closing_fails names _ c.args.self.now.filled (so_far c.args.self.now.fits c.args.self.now.schedule)
    c.args.at c.args.text.now c.requires.some
    c.word_len-len.result _ _ c.in-Some.group c.args.self.now.open_groups.items c.requires.first c.in-Some.ensures.items
    c.split_at.ensures.back c.word_len-len.ensures.len c.split_at-2.ensures.back
    _ _ _ c.in-Err.ensures c.as_slice.ensures.value c.outermost_fault.ensures)
