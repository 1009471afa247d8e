-- Why `lines` in src/traces.rt keeps its clauses `first_lines` and `lines_in_a_range`.

use Rattle.std.proofs.Common.{refl}
use Rattle.std.specs.Fmt.{digits}
use Rattle.std.specs.Int.{int_wrap}
use Rattle.ls_meaning.specs.Methods.{invoke, depth_limit}
use Rattle.ls_view_rows.proofs.traces.lines.Goals as goal

pub returns-clause-first_lines : goal.returns-clause-first_lines
unfolding digits int_wrap invoke depth_limit
returns-clause-first_lines c = refl

pub returns-clause-lines_in_a_range : goal.returns-clause-lines_in_a_range
unfolding digits int_wrap invoke depth_limit
returns-clause-lines_in_a_range c = refl
