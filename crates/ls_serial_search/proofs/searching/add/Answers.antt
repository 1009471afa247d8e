-- Why `add` in src/searching.rt keeps its clause `parked`.

use Rattle.std.proofs.Common.{subst, sym}
use Rattle.ls_serial_search.specs.Parked.{AreParked}
use Rattle.ls_serial_search.proofs.Parked.{parked_push}
use Rattle.ls_serial_search.proofs.searching.add.Goals as goal

pub returns-clause-parked : goal.returns-clause-parked
returns-clause-parked c = λ file program stands are.
    subst (λ ss. AreParked file program ss c.push.new.self.items) (sym c.in_ok-push-2.ensures.items)
    (subst (AreParked file program _) (sym c.in_ok-push.ensures.items)
    (parked_push file program c.args.orders.now.schedules.items c.args.orders.now.runs.items c.args.schedule
    c.parked_within.result are (c.parked_within.ensures file program c.args.schedule stands)))
