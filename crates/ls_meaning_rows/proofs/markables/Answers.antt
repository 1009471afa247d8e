-- Why `markables` in src/lib.rt keeps its contract.

use Rattle.std.proofs.Common.{refl}
use Rattle.std.specs.Int.{int_wrap}
use Rattle.ls_meaning.specs.Methods.{invoke, depth_limit}
use Rattle.ls_meaning_rows.proofs.markables.Goals as goal

pub returns-clause-arguments_of_the_making : goal.returns-clause-arguments_of_the_making
unfolding int_wrap invoke depth_limit
returns-clause-arguments_of_the_making c = refl

pub returns-clause-arguments_of_set : goal.returns-clause-arguments_of_set
unfolding int_wrap invoke depth_limit
returns-clause-arguments_of_set c = refl

pub returns-clause-arguments_of_attempt_mark : goal.returns-clause-arguments_of_attempt_mark
unfolding int_wrap invoke depth_limit
returns-clause-arguments_of_attempt_mark c = refl

pub returns-clause-arguments_of_compare_and_set : goal.returns-clause-arguments_of_compare_and_set
unfolding int_wrap invoke depth_limit
returns-clause-arguments_of_compare_and_set c = refl

pub returns-clause-null_target_after_arguments : goal.returns-clause-null_target_after_arguments
unfolding int_wrap invoke depth_limit
returns-clause-null_target_after_arguments c = refl

pub returns-clause-null_target_of_get_after_its_array : goal.returns-clause-null_target_of_get_after_its_array
unfolding int_wrap invoke depth_limit
returns-clause-null_target_of_get_after_its_array c = refl

pub returns-clause-null_array_of_get_after_the_read : goal.returns-clause-null_array_of_get_after_the_read
unfolding int_wrap invoke depth_limit
returns-clause-null_array_of_get_after_the_read c = refl

pub returns-clause-get_with_two_elements : goal.returns-clause-get_with_two_elements
unfolding int_wrap invoke depth_limit
returns-clause-get_with_two_elements c = refl

pub returns-clause-expected_mark_is_wrong : goal.returns-clause-expected_mark_is_wrong
unfolding int_wrap invoke depth_limit
returns-clause-expected_mark_is_wrong c = refl

pub returns-clause-expected_reference_is_wrong : goal.returns-clause-expected_reference_is_wrong
unfolding int_wrap invoke depth_limit
returns-clause-expected_reference_is_wrong c = refl

pub returns-clause-exchange_sets_both : goal.returns-clause-exchange_sets_both
unfolding int_wrap invoke depth_limit
returns-clause-exchange_sets_both c = refl

pub returns-clause-attempt_of_the_same_mark : goal.returns-clause-attempt_of_the_same_mark
unfolding int_wrap invoke depth_limit
returns-clause-attempt_of_the_same_mark c = refl
