-- Why `runs` in src/lib.rt keeps its contract.

use Rattle.std.proofs.Common.{refl}
use Rattle.std.specs.Int.{int_wrap}
use Rattle.ls_meaning.specs.Methods.{invoke, depth_limit}
use Rattle.ls_meaning_rows.proofs.runs.Goals as goal

pub returns-clause-update_lost : goal.returns-clause-update_lost
unfolding int_wrap invoke depth_limit
returns-clause-update_lost c = refl

pub returns-clause-value_before_finally : goal.returns-clause-value_before_finally
unfolding int_wrap invoke depth_limit
returns-clause-value_before_finally c = refl

pub returns-clause-return_over_throw : goal.returns-clause-return_over_throw
unfolding int_wrap invoke depth_limit
returns-clause-return_over_throw c = refl

pub returns-clause-finally_before_trap : goal.returns-clause-finally_before_trap
unfolding int_wrap invoke depth_limit
returns-clause-finally_before_trap c = refl

pub returns-clause-get_with_an_empty_array : goal.returns-clause-get_with_an_empty_array
unfolding int_wrap invoke depth_limit
returns-clause-get_with_an_empty_array c = refl

pub returns-clause-get_before_its_trap : goal.returns-clause-get_before_its_trap
unfolding int_wrap invoke depth_limit
returns-clause-get_before_its_trap c = refl

pub returns-clause-sixty_four_calls : goal.returns-clause-sixty_four_calls
unfolding int_wrap invoke depth_limit
returns-clause-sixty_four_calls c = refl

pub returns-clause-held_twice : goal.returns-clause-held_twice
unfolding int_wrap invoke depth_limit
returns-clause-held_twice c = refl

pub returns-clause-lazy_list : goal.returns-clause-lazy_list
unfolding int_wrap invoke depth_limit
returns-clause-lazy_list c = refl
