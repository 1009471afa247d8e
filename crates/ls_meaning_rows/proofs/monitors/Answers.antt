-- Why `monitors` in src/lib.rt keeps its contract.

use Rattle.std.proofs.Common.{refl}
use Rattle.std.specs.Int.{int_wrap}
use Rattle.ls_meaning.specs.Methods.{invoke, depth_limit}
use Rattle.ls_meaning_rows.proofs.monitors.Goals as goal

pub returns-clause-no_update_lost : goal.returns-clause-no_update_lost
unfolding int_wrap invoke depth_limit
returns-clause-no_update_lost c = refl

pub returns-clause-one_step_less : goal.returns-clause-one_step_less
unfolding int_wrap invoke depth_limit
returns-clause-one_step_less c = refl

pub returns-clause-monitor_of_null : goal.returns-clause-monitor_of_null
unfolding int_wrap invoke depth_limit
returns-clause-monitor_of_null c = refl

pub returns-clause-unlocked_by_traps : goal.returns-clause-unlocked_by_traps
unfolding int_wrap invoke depth_limit
returns-clause-unlocked_by_traps c = refl

pub returns-clause-monitor_of_an_object : goal.returns-clause-monitor_of_an_object
unfolding int_wrap invoke depth_limit
returns-clause-monitor_of_an_object c = (refl, refl, refl, refl, refl, refl, refl, refl)
