-- Why `measure` in src/files.rt keeps its clauses `refused`, `few`, `short` and `together`.

use Rattle.std.proofs.Common.{rules, ◌∙◌}
use Rattle.ls_lowered.proofs.Taken.{no_truth}
use Rattle.ls_linker.proofs.WholeCounts.{few_copies, passes_on, are_short, short_so, together, together_so}
use Rattle.ls_linker.proofs.files.measure.Goals as goal

pub returns-in_err-lengths-clause-refused : goal.returns-in_err-lengths-clause-refused
returns-in_err-lengths-clause-refused c = passes_on c.deref.result.now c.args.tree.now.methods.items
    c.from_residual.result c.deref.ensures.value (search rules)

pub returns-then-not-are_short-clause-refused : goal.returns-then-not-are_short-clause-refused
returns-then-not-are_short-clause-refused c = (
  few_copies c.deref.result.now c.args.tree.now.methods.items c.deref.ensures.value c.in_ok-lengths.ensures.few,
  λ short. no_truth (c.if-not-are_short.ensures.1
      (are_short c.deref.result.now c.args.tree.now.methods.items c.deref-2.result.now c.deref.ensures.value
      (c.deref-2.ensures.value ∙ c.in_ok-lengths.ensures.lengths) short)),
)

pub returns-clause-few : goal.returns-clause-few
returns-clause-few c = few_copies c.deref.result.now c.args.tree.now.methods.items c.deref.ensures.value
    c.in_ok-lengths.ensures.few

pub returns-clause-short : goal.returns-clause-short
returns-clause-short c =
    short_so c.deref.result.now c.args.tree.now.methods.items c.deref-2.result.now c.deref.ensures.value
    (c.deref-2.ensures.value ∙ c.in_ok-lengths.ensures.lengths)
    (c.if-not-are_short.ensures.0 (search rules))

pub returns-clause-together : goal.returns-clause-together
returns-clause-together c =
    together_so c.deref.result.now c.args.tree.now.methods.items c.deref-3.result.now c.deref.ensures.value
    (c.deref-3.ensures.value ∙ c.in_ok-lengths.ensures.lengths)
    (c.if-not-are_short_together.ensures.0 (search rules))

pub returns-then-not-are_short_together-clause-refused : goal.returns-then-not-are_short_together-clause-refused
returns-then-not-are_short_together-clause-refused c = (
  few_copies c.deref.result.now c.args.tree.now.methods.items c.deref.ensures.value c.in_ok-lengths.ensures.few,
  short_so c.deref.result.now c.args.tree.now.methods.items c.deref-2.result.now c.deref.ensures.value
      (c.deref-2.ensures.value ∙ c.in_ok-lengths.ensures.lengths)
      (c.if-not-are_short.ensures.0 (search rules)),
  λ short. no_truth (c.if-not-are_short_together.ensures.1
      (together c.deref.result.now c.args.tree.now.methods.items c.deref-3.result.now c.deref.ensures.value
      (c.deref-3.ensures.value ∙ c.in_ok-lengths.ensures.lengths) short)),
)
