-- Why `Reader::pass` in src/groups.rt keeps its clause `passes` and what `pass_word` requires.

use Rattle.std.proofs.Common.{◌∙◌, map, sym, arith}
use Rattle.ls_schedule.specs.Answers.{so_far}
use Rattle.ls_schedule.specs.Reading.{thread_name}
use Rattle.ls_schedule.proofs.Passes.{byte_of_word, gap_on}
use Rattle.ls_schedule.proofs.groups.Reader.pass.Goals as goal

pub returns-then-is_gap-clause-passes : goal.returns-then-is_gap-clause-passes
returns-then-is_gap-clause-passes c all = (
  gap_on (map thread_name c.args.threads.now) c.args.self.now.open_groups.items c.args.self.now.filled
      (so_far c.args.self.now.fits c.args.self.now.schedule) c.args.at c.args.text.now c.requires.some
      (sym c.is_gap.ensures ∙ c.if-is_gap.true),
  omega arith,
  omega arith,
)

pub pass_word-requires-clause-first : goal.pass_word-requires-clause-first
pass_word-requires-clause-first c = byte_of_word _ _ c.is_gap.ensures c.if-is_gap.false c.if-first-eq40.false
    c.if-first-eq41.false

pub returns-then-first-eq40-clause-passes : goal.returns-then-first-eq40-clause-passes
returns-then-first-eq40-clause-passes c all = c.pass_opening.ensures.passes (map thread_name c.args.threads.now)

pub returns-then-first-eq41-clause-passes : goal.returns-then-first-eq41-clause-passes
returns-then-first-eq41-clause-passes c all = c.pass_closing.ensures.passes (map thread_name c.args.threads.now)
