-- Why `operators` in src/lib.rt keeps its contract.

use Rattle.std.proofs.Common.{refl}
use Rattle.std.specs.Int.{int_wrap}
use Rattle.ls_meaning.specs.Methods.{invoke, depth_limit}
use Rattle.ls_meaning_rows.proofs.operators.Goals as goal

pub returns-clause-quotients : goal.returns-clause-quotients
unfolding int_wrap invoke depth_limit
returns-clause-quotients c = refl

pub returns-clause-remainders : goal.returns-clause-remainders
unfolding int_wrap invoke depth_limit
returns-clause-remainders c = refl

pub returns-clause-sums : goal.returns-clause-sums
unfolding int_wrap invoke depth_limit
returns-clause-sums c = refl

pub returns-clause-differences : goal.returns-clause-differences
unfolding int_wrap invoke depth_limit
returns-clause-differences c = refl

pub returns-clause-products : goal.returns-clause-products
unfolding int_wrap invoke depth_limit
returns-clause-products c = refl

pub returns-clause-less : goal.returns-clause-less
unfolding int_wrap invoke depth_limit
returns-clause-less c = refl

pub returns-clause-less_or_equal : goal.returns-clause-less_or_equal
unfolding int_wrap invoke depth_limit
returns-clause-less_or_equal c = refl

pub returns-clause-greater : goal.returns-clause-greater
unfolding int_wrap invoke depth_limit
returns-clause-greater c = refl

pub returns-clause-greater_or_equal : goal.returns-clause-greater_or_equal
unfolding int_wrap invoke depth_limit
returns-clause-greater_or_equal c = refl

pub returns-clause-equal : goal.returns-clause-equal
unfolding int_wrap invoke depth_limit
returns-clause-equal c = refl

pub returns-clause-not_equal : goal.returns-clause-not_equal
unfolding int_wrap invoke depth_limit
returns-clause-not_equal c = refl

pub returns-clause-quotient_by_zero : goal.returns-clause-quotient_by_zero
unfolding int_wrap invoke depth_limit
returns-clause-quotient_by_zero c = refl

pub returns-clause-remainder_by_zero : goal.returns-clause-remainder_by_zero
unfolding int_wrap invoke depth_limit
returns-clause-remainder_by_zero c = refl

pub returns-clause-opposite_of_the_least_int : goal.returns-clause-opposite_of_the_least_int
unfolding int_wrap invoke depth_limit
returns-clause-opposite_of_the_least_int c = refl

pub returns-clause-references : goal.returns-clause-references
unfolding int_wrap invoke depth_limit
returns-clause-references c = refl

pub returns-clause-booleans : goal.returns-clause-booleans
unfolding int_wrap invoke depth_limit
returns-clause-booleans c = refl
