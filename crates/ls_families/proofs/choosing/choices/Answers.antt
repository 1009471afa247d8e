-- Why `choices` in src/choosing.rt keeps its loops `init` and `preserved`.

use Rattle.std.proofs.Common.{arith}
use Rattle.ls_families.proofs.Chosen.{chosen_more, chosen_none}
use Rattle.ls_families.proofs.choosing.choices.Goals as goal

pub loop-init : goal.loop-init
loop-init c = chosen_none c.args.out_of c.args.count c.args.number c.new-last_first.result.items
    c.new-last_first.ensures.items

pub loop-preserved : goal.loop-preserved
loop-preserved c =
    chosen_more c.args.out_of c.args.count c.loop.counter c.loop.rest c.args.number c.loop.last_first.items
    _ (omega arith) c.in_ok-push.ensures.items c.loop.invariant
