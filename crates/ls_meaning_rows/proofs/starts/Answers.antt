-- Why `starts` in src/lib.rt keeps its clauses `products_of_zero` and `fields_start`.

use Rattle.std.proofs.Common.{refl}
use Rattle.std.specs.Int.{int_wrap}
use Rattle.ls_meaning.specs.Methods.{invoke, depth_limit}
use Rattle.ls_meaning_rows.proofs.starts.Goals as goal

pub returns-clause-products_of_zero : goal.returns-clause-products_of_zero
unfolding int_wrap invoke depth_limit
returns-clause-products_of_zero c = refl

pub returns-clause-fields_start : goal.returns-clause-fields_start
unfolding int_wrap invoke depth_limit
returns-clause-fields_start c = refl
