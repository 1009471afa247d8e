-- Why `plan_at` in src/families.rt keeps its contract and its loop `shape`.

use Rattle.std.proofs.Common.{◌∙◌, ap, arith, sym}
use Rattle.std.specs.Prelude.{Some}
use Rattle.ls_families.proofs.Numbered.{plan_after, plan_here}
use Rattle.ls_families.proofs.families.plan_at.Goals as goal

pub returns-in-None : goal.returns-in-None
returns-in-None c =
    ap (λ plan. Some plan) c.in_ok-plan-in-None.ensures ∙
    sym (plan_here c.args.sizes c.args.shapes.now c.loop-shape.shape-index c.loop-shape.rest c.shape-item.result
    (omega arith) c.shape-item.is c.in-None.ensures) ∙ c.loop-shape.invariant

pub loop-shape-preserved : goal.loop-shape-preserved
loop-shape-preserved c =
    sym (plan_after c.args.sizes c.args.shapes.now c.loop-shape.shape-index c.loop-shape.rest c.in-Some.next
    c.shape-item.result (omega arith) c.shape-item.is c.in-Some.ensures) ∙ c.loop-shape.invariant
