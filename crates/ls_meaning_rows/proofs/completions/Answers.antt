-- Why `completions` in src/lib.rt keeps its contract.

use Rattle.std.proofs.Common.{refl}
use Rattle.std.specs.Int.{int_wrap}
use Rattle.ls_meaning.specs.Methods.{invoke, depth_limit}
use Rattle.ls_meaning_rows.proofs.completions.Goals as goal

pub returns-clause-locals_set_in_finally : goal.returns-clause-locals_set_in_finally
unfolding int_wrap invoke depth_limit
returns-clause-locals_set_in_finally c = refl

pub returns-clause-local_reset_at_each_declaration : goal.returns-clause-local_reset_at_each_declaration
unfolding int_wrap invoke depth_limit
returns-clause-local_reset_at_each_declaration c = refl

pub returns-clause-return_over_return : goal.returns-clause-return_over_return
unfolding int_wrap invoke depth_limit
returns-clause-return_over_return c = refl

pub returns-clause-return_over_break : goal.returns-clause-return_over_break
unfolding int_wrap invoke depth_limit
returns-clause-return_over_break c = refl

pub returns-clause-break_over_return : goal.returns-clause-break_over_return
unfolding int_wrap invoke depth_limit
returns-clause-break_over_return c = refl

pub returns-clause-throw_over_return : goal.returns-clause-throw_over_return
unfolding int_wrap invoke depth_limit
returns-clause-throw_over_return c = refl

pub returns-clause-throw_over_throw : goal.returns-clause-throw_over_throw
unfolding int_wrap invoke depth_limit
returns-clause-throw_over_throw c = refl

pub returns-clause-continue_out_of_a_try : goal.returns-clause-continue_out_of_a_try
unfolding int_wrap invoke depth_limit
returns-clause-continue_out_of_a_try c = refl

pub returns-clause-outer_loops : goal.returns-clause-outer_loops
unfolding int_wrap invoke depth_limit
returns-clause-outer_loops c = refl

pub returns-clause-nested_finally_blocks_in_order : goal.returns-clause-nested_finally_blocks_in_order
unfolding int_wrap invoke depth_limit
returns-clause-nested_finally_blocks_in_order c = refl

pub returns-clause-return_ends_a_block : goal.returns-clause-return_ends_a_block
unfolding int_wrap invoke depth_limit
returns-clause-return_ends_a_block c = refl

pub returns-clause-return_without_a_value : goal.returns-clause-return_without_a_value
unfolding int_wrap invoke depth_limit
returns-clause-return_without_a_value c = refl

pub returns-clause-else_branch : goal.returns-clause-else_branch
unfolding int_wrap invoke depth_limit
returns-clause-else_branch c = refl
