-- Why `table_of` in src/table.rt keeps its loop `thread`.

use Rattle.std.proofs.Common.{map}
use Rattle.ls_schedule.specs.Reading.{thread_name}
use Rattle.ls_schedule.proofs.Short.{none_entered}
use Rattle.ls_schedule.proofs.table.table_of.Goals as goal

pub loop-thread-init : goal.loop-thread-init
loop-thread-init c = none_entered (map thread_name c.args.threads.now)
