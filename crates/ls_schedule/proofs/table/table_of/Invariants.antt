-- What the loop `thread` of `table_of` in src/table.rt keeps.

use Rattle.std.proofs.Common.{map}
use Rattle.ls_schedule.specs.Reading.{thread_name}
use Rattle.ls_schedule.specs.Table.{IsTable}
use Rattle.ls_schedule.proofs.table.table_of.Given as goal

abbrev pub invariant-loop-thread : goal.invariant-loop-thread
invariant-loop-thread l = IsTable (map thread_name l.threads) l.table
