-- Why `declarator` in src/declarations.rt keeps its clause `places`.

use Rattle.ls_parser_declarations.proofs.Places.{value_is}
use Rattle.ls_parser_declarations.proofs.declarations.declarator.Goals as goal

pub returns-in_ok-value-in-Some-clause-places : goal.returns-in_ok-value-in-Some-clause-places
returns-in_ok-value-in-Some-clause-places c =
    value_is c.in_ok-name.ensures.placed c.in-Some.ensures.placed c.in_ok-value-in-Some.ensures.places
