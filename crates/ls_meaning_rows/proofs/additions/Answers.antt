-- Why `additions` in src/lib.rt keeps its clauses `null_before_value`, `read_before_value` and `sums_wrap`.

use Rattle.std.proofs.Common.{refl}
use Rattle.std.specs.Int.{int_wrap}
use Rattle.ls_meaning.specs.Methods.{invoke, depth_limit}
use Rattle.ls_meaning_rows.proofs.additions.Goals as goal

pub returns-clause-null_before_value : goal.returns-clause-null_before_value
unfolding int_wrap invoke depth_limit
returns-clause-null_before_value c = refl

pub returns-clause-read_before_value : goal.returns-clause-read_before_value
unfolding int_wrap invoke depth_limit
returns-clause-read_before_value c = refl

pub returns-clause-sums_wrap : goal.returns-clause-sums_wrap
unfolding int_wrap invoke depth_limit
returns-clause-sums_wrap c = refl
