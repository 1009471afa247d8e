-- Why `steps` in src/lib.rt keeps its contract.

use Rattle.std.proofs.Common.{refl}
use Rattle.std.specs.Int.{int_wrap}
use Rattle.ls_meaning.specs.Methods.{invoke, depth_limit}
use Rattle.ls_meaning_rows.proofs.steps.Goals as goal

pub returns-clause-whole_history : goal.returns-clause-whole_history
unfolding int_wrap invoke depth_limit
returns-clause-whole_history c = refl

pub returns-clause-state_of_a_run : goal.returns-clause-state_of_a_run
unfolding int_wrap invoke depth_limit
returns-clause-state_of_a_run c = refl

pub returns-clause-waits_or_idle : goal.returns-clause-waits_or_idle
unfolding int_wrap invoke depth_limit
returns-clause-waits_or_idle c = (refl, refl, refl, refl, refl)

pub returns-clause-idle_at_first : goal.returns-clause-idle_at_first
unfolding int_wrap invoke depth_limit
returns-clause-idle_at_first c = (refl, refl)

pub returns-clause-asked_later : goal.returns-clause-asked_later
unfolding int_wrap invoke depth_limit
returns-clause-asked_later c = (refl, refl, refl, refl)

pub returns-clause-asked_on_the_way : goal.returns-clause-asked_on_the_way
unfolding int_wrap invoke depth_limit
returns-clause-asked_on_the_way c = (refl, refl, refl, refl, refl, refl)
