-- Why `turns` in src/simples.rt keeps its clause `places`.

use Rattle.ls_parser_statements.proofs.simples.turns.Goals as goal

pub returns-clause-places : goal.returns-clause-places
returns-clause-places c = (_, _, c.in_ok-condition.ensures.places, c.in_ok-updates.ensures.places)
