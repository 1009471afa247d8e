-- Why `goes_on_by` in src/reading.rt keeps its clause `more`.

use Rattle.std.proofs.Common.{arith}
use Rattle.ls_schedule.proofs.Short.{by_fits, by_over}
use Rattle.ls_schedule.proofs.reading.goes_on_by.Goals as goal

pub returns-then-count-room-clause-more : goal.returns-then-count-room-clause-more
returns-then-count-room-clause-more c = by_over c.args.schedule.now c.args.thread c.args.count (omega arith)

pub returns-clause-more : goal.returns-clause-more
returns-clause-more c = by_fits c.args.schedule.now _ c.args.thread c.args.count (omega arith)
    c.in_ok-push_run.ensures.added
