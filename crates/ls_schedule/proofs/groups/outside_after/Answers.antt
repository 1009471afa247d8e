-- Why `outside_after` in src/groups.rt keeps its clause `fault`.

use Rattle.std.proofs.Common.{◌≡◌, arith}
use Rattle.ls_schedule.specs.Passing.{places}
use Rattle.ls_schedule.proofs.Passes.{outside_round}
use Rattle.ls_schedule.proofs.groups.outside_after.Goals as goal

pub returns-clause-fault : goal.returns-clause-fault
returns-clause-fault c =
    let closes : c.args.first ≡ 41 = omega arith in
    let none : c.args.outside.deeper ≡ 0 = omega arith in
    outside_round (places c.args.groups.now) c.args.outside.left _ c.args.outside.deeper _ c.args.outside.fault _
    c.args.first c.args.after.now closes none
    c.outside_group.ensures.deeper c.outside_group.ensures.left c.outside_group.ensures.fault
