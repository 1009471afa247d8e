-- Why `loops` in src/lib.rt keeps its contract.

use Rattle.std.proofs.Common.{refl}
use Rattle.std.specs.Int.{int_wrap}
use Rattle.ls_meaning.specs.Methods.{invoke, depth_limit}
use Rattle.ls_meaning_rows.proofs.loops.Goals as goal

pub returns-clause-exception_out_of_a_loop : goal.returns-clause-exception_out_of_a_loop
unfolding int_wrap invoke depth_limit
returns-clause-exception_out_of_a_loop c = refl

pub returns-clause-continue_skips_the_rest : goal.returns-clause-continue_skips_the_rest
unfolding int_wrap invoke depth_limit
returns-clause-continue_skips_the_rest c = refl

pub returns-clause-continue_out_of_an_inner_block : goal.returns-clause-continue_out_of_an_inner_block
unfolding int_wrap invoke depth_limit
returns-clause-continue_out_of_an_inner_block c = refl

pub returns-clause-break_out_of_an_inner_block : goal.returns-clause-break_out_of_an_inner_block
unfolding int_wrap invoke depth_limit
returns-clause-break_out_of_an_inner_block c = refl

pub returns-clause-continue_of_the_outer_loop : goal.returns-clause-continue_of_the_outer_loop
unfolding int_wrap invoke depth_limit
returns-clause-continue_of_the_outer_loop c = refl
