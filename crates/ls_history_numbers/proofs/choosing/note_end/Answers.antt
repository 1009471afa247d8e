-- Why `note_end` in src/choosing.rt keeps its clause `firsts`.

use Rattle.std.proofs.Common.{Some, length, ap, ◌∙◌, arith, get_or}
use Rattle.std.proofs.lemmas.Option.{slice_get-get_or}
use Rattle.ls_history_numbers.proofs.Telling.{firsts_set, firsts_skip}
use Rattle.ls_history_numbers.proofs.choosing.note_end.Goals as goal

pub returns-then-ends-at-clause-firsts : goal.returns-then-ends-at-clause-firsts
returns-then-ends-at-clause-firsts c = λ from is h.
    let within = slice_get-get_or c.args.numbers.now c.args.at 0 (omega (arith, c.requires.at, c.requires.few)) in
    firsts_set c.args.numbers.now c.args.ends.now c.args.firsts.now.items (length c.args.firsts.now.items) from
    c.args.at h is (get_or c.args.numbers.now c.args.at 0) within
    (slice_get-get_or c.args.ends.now c.args.at _ c.requires.at ∙ ap Some c.if-ends-at.true)
    (c.requires.there c.args.at (get_or c.args.numbers.now c.args.at 0) within)

pub returns-else-ends-at-clause-firsts : goal.returns-else-ends-at-clause-firsts
returns-else-ends-at-clause-firsts c = λ from is h.
    firsts_skip c.args.numbers.now c.args.ends.now c.args.firsts.now.items (length c.args.firsts.now.items) from
    c.args.at h is _ (slice_get-get_or c.args.ends.now c.args.at _ c.requires.at) c.if-ends-at.false
