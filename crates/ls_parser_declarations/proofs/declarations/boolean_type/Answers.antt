-- Why `boolean_type` in src/declarations.rt keeps its clause `places`.

use Rattle.ls_parser_declarations.proofs.Places.{array_is}
use Rattle.ls_parser_declarations.proofs.declarations.boolean_type.Goals as goal

pub returns-in_ok-expect-in-Some-clause-places : goal.returns-in_ok-expect-in-Some-clause-places
returns-in_ok-expect-in-Some-clause-places c = array_is c.in-Some.ensures.placed c.in_ok-expect-in-Some.ensures.placed
