-- Why `ended` in src/simple_statements.rt keeps its clause `places`.

use Rattle.ls_parser_expressions.proofs.Places.{both_ok}
use Rattle.ls_parser_statements.proofs.Places.{ended_is}
use Rattle.ls_parser_statements.proofs.simple_statements.ended.Goals as goal

pub returns-clause-places : goal.returns-clause-places
returns-clause-places c =
    both_ok c.closed_part.result _ _ _ (λ p same close. ended_is same.0 c.in_ok-value.ensures.places close)
    c.closed_part.ensures.same c.closed_part.ensures.placed
