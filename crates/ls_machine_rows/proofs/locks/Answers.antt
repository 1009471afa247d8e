-- Why `locks` in src/lib.rt keeps its contract.

use Rattle.std.proofs.Common.{refl}
use Rattle.ls_machine_rows.proofs.locks.Goals as goal

pub returns-clause-see_for_lock : goal.returns-clause-see_for_lock
returns-clause-see_for_lock c = (refl, refl, refl, refl)

pub returns-clause-see_for_try : goal.returns-clause-see_for_try
returns-clause-see_for_try c = (refl, refl, refl, refl)

pub returns-clause-see_for_unlock : goal.returns-clause-see_for_unlock
returns-clause-see_for_unlock c = (refl, refl, refl, refl, refl)

pub returns-clause-see_of_null : goal.returns-clause-see_of_null
returns-clause-see_of_null c = (refl, refl, refl)

pub returns-clause-see_sticks : goal.returns-clause-see_sticks
returns-clause-see_sticks c = (refl, refl, refl, refl, refl)

pub returns-clause-take_wins : goal.returns-clause-take_wins
returns-clause-take_wins c = (refl, refl, refl, refl, refl, refl)

pub returns-clause-take_loses : goal.returns-clause-take_loses
returns-clause-take_loses c = (refl, refl, refl, refl)

pub returns-clause-take_of_another : goal.returns-clause-take_of_another
returns-clause-take_of_another c = (refl, refl, refl, refl)

pub returns-clause-take_past_the_most : goal.returns-clause-take_past_the_most
returns-clause-take_past_the_most c = (refl, refl)

pub returns-clause-take_sticks : goal.returns-clause-take_sticks
returns-clause-take_sticks c = (refl, refl, refl, refl, refl)

pub returns-clause-drops : goal.returns-clause-drops
returns-clause-drops c = (refl, refl, refl)

pub returns-clause-drop_sticks : goal.returns-clause-drop_sticks
returns-clause-drop_sticks c = (refl, refl, refl, refl, refl)

pub returns-clause-lock_of_monitor : goal.returns-clause-lock_of_monitor
returns-clause-lock_of_monitor c = (refl, refl, refl, refl, refl, refl, refl, refl)

pub returns-clause-unlock_of_monitor : goal.returns-clause-unlock_of_monitor
returns-clause-unlock_of_monitor c = (refl, refl, refl, refl, refl)

pub returns-clause-two_holds_dropped : goal.returns-clause-two_holds_dropped
returns-clause-two_holds_dropped c = (refl, refl, refl, refl)
