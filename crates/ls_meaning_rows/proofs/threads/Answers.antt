-- Why `threads` in src/lib.rt keeps its contract.

use Rattle.std.proofs.Common.{refl}
use Rattle.std.specs.Int.{int_wrap}
use Rattle.ls_meaning.specs.Methods.{invoke, depth_limit}
use Rattle.ls_meaning_rows.proofs.threads.Goals as goal

pub returns-clause-no_start_before_the_setup_has_ended : goal.returns-clause-no_start_before_the_setup_has_ended
unfolding int_wrap invoke depth_limit
returns-clause-no_start_before_the_setup_has_ended c = refl

pub returns-clause-no_start_after_a_trap_of_the_setup : goal.returns-clause-no_start_after_a_trap_of_the_setup
unfolding int_wrap invoke depth_limit
returns-clause-no_start_after_a_trap_of_the_setup c = refl

pub returns-clause-no_step_after_a_trap : goal.returns-clause-no_step_after_a_trap
unfolding int_wrap invoke depth_limit
returns-clause-no_step_after_a_trap c = refl

pub returns-clause-exception_of_an_initialiser : goal.returns-clause-exception_of_an_initialiser
unfolding int_wrap invoke depth_limit
returns-clause-exception_of_an_initialiser c = refl

pub returns-clause-exception_of_a_constructor : goal.returns-clause-exception_of_a_constructor
unfolding int_wrap invoke depth_limit
returns-clause-exception_of_a_constructor c = refl

pub returns-clause-a_held_lock_is_waited_for : goal.returns-clause-a_held_lock_is_waited_for
unfolding int_wrap invoke depth_limit
returns-clause-a_held_lock_is_waited_for c = refl

pub returns-clause-unlock_of_a_lock_that_another_holds : goal.returns-clause-unlock_of_a_lock_that_another_holds
unfolding int_wrap invoke depth_limit
returns-clause-unlock_of_a_lock_that_another_holds c = refl

pub returns-clause-unlock_of_a_free_lock : goal.returns-clause-unlock_of_a_free_lock
unfolding int_wrap invoke depth_limit
returns-clause-unlock_of_a_free_lock c = refl

pub returns-clause-held_by_another : goal.returns-clause-held_by_another
unfolding int_wrap invoke depth_limit
returns-clause-held_by_another c = refl

pub returns-clause-two_holds_by_try : goal.returns-clause-two_holds_by_try
unfolding int_wrap invoke depth_limit
returns-clause-two_holds_by_try c = refl
