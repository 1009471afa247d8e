-- Why `have_few_locals` in src/counts.rt keeps its contract and its loop `method`.

use Rattle.ls_lowered.specs.Limits.{most_locals}
use Rattle.std.proofs.Common.{rules, ◌≤◌}
use Rattle.ls_lowered.specs.Plain.{plain_method}
use Rattle.ls_finally.specs.Counts.{locals_of}
use Rattle.ls_lowered.proofs.Taken.{all_more, all_done, counted}
use Rattle.ls_finally.proofs.counts.have_few_locals.Goals as goal

pub loop-method-preserved : goal.loop-method-preserved
loop-method-preserved c =
    all_more (λ m. locals_of (plain_method m) ≤ most_locals) c.args.methods.now c.loop-method.method-index
    c.method-item.result (search rules) c.method-item.is c.loop-method.invariant
    (counted c.count_locals.result _ _ c.count_locals.ensures c.if-is_none.ensures)

pub returns : goal.returns
returns c = (
  λ _. all_done (λ m. locals_of (plain_method m) ≤ most_locals) c.args.methods.now c.loop-method.method-index
      (search rules) c.loop-method.invariant,
  λ _. search rules,
)
