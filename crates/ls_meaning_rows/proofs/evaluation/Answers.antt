-- Why `evaluation` in src/lib.rt keeps its contract.

use Rattle.std.proofs.Common.{refl}
use Rattle.std.specs.Int.{int_wrap}
use Rattle.ls_meaning.specs.Methods.{invoke, depth_limit}
use Rattle.ls_meaning_rows.proofs.evaluation.Goals as goal

pub returns-clause-target_null_after_arguments : goal.returns-clause-target_null_after_arguments
unfolding int_wrap invoke depth_limit
returns-clause-target_null_after_arguments c = refl

pub returns-clause-field_null_after_value : goal.returns-clause-field_null_after_value
unfolding int_wrap invoke depth_limit
returns-clause-field_null_after_value c = refl

pub returns-clause-method_arguments : goal.returns-clause-method_arguments
unfolding int_wrap invoke depth_limit
returns-clause-method_arguments c = refl

pub returns-clause-operands : goal.returns-clause-operands
unfolding int_wrap invoke depth_limit
returns-clause-operands c = refl

pub returns-clause-constructor_arguments : goal.returns-clause-constructor_arguments
unfolding int_wrap invoke depth_limit
returns-clause-constructor_arguments c = refl

pub returns-clause-and_left_false : goal.returns-clause-and_left_false
unfolding int_wrap invoke depth_limit
returns-clause-and_left_false c = refl

pub returns-clause-and_left_true : goal.returns-clause-and_left_true
unfolding int_wrap invoke depth_limit
returns-clause-and_left_true c = refl

pub returns-clause-or_left_true : goal.returns-clause-or_left_true
unfolding int_wrap invoke depth_limit
returns-clause-or_left_true c = refl

pub returns-clause-or_left_false : goal.returns-clause-or_left_false
unfolding int_wrap invoke depth_limit
returns-clause-or_left_false c = refl

pub returns-clause-array_null_after_index : goal.returns-clause-array_null_after_index
unfolding int_wrap invoke depth_limit
returns-clause-array_null_after_index c = refl

pub returns-clause-array_index_value : goal.returns-clause-array_index_value
unfolding int_wrap invoke depth_limit
returns-clause-array_index_value c = refl

pub returns-clause-array_null_after_value : goal.returns-clause-array_null_after_value
unfolding int_wrap invoke depth_limit
returns-clause-array_null_after_value c = refl

pub returns-clause-negative_index : goal.returns-clause-negative_index
unfolding int_wrap invoke depth_limit
returns-clause-negative_index c = refl

pub returns-clause-negative_length : goal.returns-clause-negative_length
unfolding int_wrap invoke depth_limit
returns-clause-negative_length c = refl

pub returns-clause-index_at_the_length : goal.returns-clause-index_at_the_length
unfolding int_wrap invoke depth_limit
returns-clause-index_at_the_length c = refl
