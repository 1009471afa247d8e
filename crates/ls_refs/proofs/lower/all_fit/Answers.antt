-- Why `all_fit` in src/lower.rt keeps its contract and its loop `method`.

use Rattle.ls_lowered.specs.Limits.{most_locals}
use Rattle.std.proofs.Common.{rules, ◌≤◌}
use Rattle.ls_checked.specs.Plain.{plain_method as checked_method}
use Rattle.ls_refs.specs.Temporaries.{locals_of}
use Rattle.ls_lowered.proofs.Taken.{all_more, all_done, counted}
use Rattle.ls_refs.proofs.lower.all_fit.Goals as goal

pub loop-method-preserved : goal.loop-method-preserved
loop-method-preserved c =
    all_more (λ m. locals_of (checked_method m) ≤ most_locals) c.args.methods.now c.loop-method.method-index
    c.method-item.result (search rules) c.method-item.is c.loop-method.invariant
    (counted c.count_locals.result _ _ c.count_locals.ensures c.if-is_none.ensures)

pub returns : goal.returns
returns c = (
  λ _. all_done (λ m. locals_of (checked_method m) ≤ most_locals) c.args.methods.now
      c.loop-method.method-index (search rules) c.loop-method.invariant,
  λ _. search rules,
)
