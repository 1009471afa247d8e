-- Why `batch` in src/batching.rt keeps its clause `tally`.

use Rattle.std.proofs.Common.{ℕ, ◌∙◌, subst, arith}
use Rattle.ls_batch.specs.Samples.{history_of, histories_of}
use Rattle.ls_batch.specs.Counted.{AreCounts}
use Rattle.ls_batch.specs.Tallies.{History}
use Rattle.ls_batch.proofs.Batched.{from_first, histories_len, within}
use Rattle.ls_batch.proofs.batching.batch.Goals as goal

pub returns-clause-tally : goal.returns-clause-tally
returns-clause-tally g c =
    let code = c.code-code.result.now in
    let first = c.args.first_seed in
    let count = c.args.count in
    let h : ℕ → History = λ s. history_of code c.args.cells s c.args.drawing in
    let fits = within first count c.args.drawing c.is_bad_count.result c.if-is_bad_count.false c.is_bad_count.ensures in
    let few = fits.0 in
    let len = histories_len h first count in
    let same = from_first h first count c.as_slice.result.now (c.as_slice.ensures.value ∙ c.in_ok-seeds.ensures) in
    rw (← c.code-code.ensures) (c.in_ok-tally.ensures first (histories_of code c.args.cells first count c.args.drawing)
    (omega arith)
    (subst (λ rs. AreCounts rs c.in_ok-counts.counts) same c.in_ok-counts.ensures))
