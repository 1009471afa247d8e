-- Why `value` in src/reading.rt keeps its loop `digit`.

use Rattle.ls_schedule.proofs.Digits.{value_more}
use Rattle.ls_schedule.proofs.reading.value.Goals as goal

pub loop-digit-preserved : goal.loop-digit-preserved
loop-digit-preserved c = rw (c.min-number.ensures, c.from.ensures)
    (value_more _ _ _ c.requires c.loop-digit-test.true c.loop-digit.invariant)
