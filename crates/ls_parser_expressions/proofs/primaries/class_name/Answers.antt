-- Why `class_name` in src/primaries.rt keeps its clause `placed`.

use Rattle.ls_parser_expressions.proofs.Places.{both_ok, class_name_is}
use Rattle.ls_parser_expressions.proofs.primaries.class_name.Goals as goal

pub returns-clause-placed : goal.returns-clause-placed
returns-clause-placed c =
    both_ok c.closed.result _ _ _
    (λ n same close. class_name_is same c.in_ok-open.ensures.placed c.in_ok-name.ensures.placed close)
    c.closed.ensures.same c.closed.ensures.placed
