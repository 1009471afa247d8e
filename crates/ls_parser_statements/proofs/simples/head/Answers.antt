-- Why `head` in src/simples.rt keeps its clause `places`.

use Rattle.ls_parser_statements.proofs.SimplePlaces.{head_is}
use Rattle.ls_parser_statements.proofs.simples.head.Goals as goal

pub returns-clause-places : goal.returns-clause-places
returns-clause-places c =
    let turns = c.in_ok-turns.ensures.places in
    head_is c.in_ok-paren.ensures.placed c.in_ok-opening.ensures.places turns.2 turns.3
