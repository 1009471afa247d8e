-- Why `marks` in src/lib.rt keeps its contract.

use Rattle.std.proofs.Common.{refl}
use Rattle.std.specs.Int.{int_wrap}
use Rattle.ls_meaning.specs.Methods.{invoke, depth_limit}
use Rattle.ls_meaning_rows.proofs.marks.Goals as goal

pub returns-clause-expected_mark_is_set : goal.returns-clause-expected_mark_is_set
unfolding int_wrap invoke depth_limit
returns-clause-expected_mark_is_set c = refl

pub returns-clause-set_is_read : goal.returns-clause-set_is_read
unfolding int_wrap invoke depth_limit
returns-clause-set_is_read c = refl

pub returns-clause-refused_attempt : goal.returns-clause-refused_attempt
unfolding int_wrap invoke depth_limit
returns-clause-refused_attempt c = refl

pub returns-clause-attempt_clears : goal.returns-clause-attempt_clears
unfolding int_wrap invoke depth_limit
returns-clause-attempt_clears c = refl
