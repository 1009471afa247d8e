-- Why `fault_at_end` in src/groups.rt keeps its contract.

use Rattle.std.proofs.Common.{◌∙◌, ◌<◌, ap, sym, arith}
use Rattle.ls_schedule.specs.declared.fault.ScheduleFault.TheVariants as fault
use Rattle.ls_schedule.specs.Passing.{places}
use Rattle.ls_schedule.proofs.Passes.{at_end}
use Rattle.ls_schedule.proofs.groups.fault_at_end.Goals as goal

pub returns-else-outside-eq0 : goal.returns-else-outside-eq0
returns-else-outside-eq0 c =
    let some : 0 < c.args.outside.left = omega arith in
    ap (λ a. fault.BadItem a) c.place_at.ensures ∙ sym (at_end (places c.args.groups.now) c.args.outside.left
    c.args.outside.fault some)
