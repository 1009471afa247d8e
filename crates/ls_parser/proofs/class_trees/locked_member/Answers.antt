-- Why `locked_member` in src/class_trees.rt keeps its clause `places`.

use Rattle.ls_parser.proofs.Places.{locked_with_result, locked_without_result}
use Rattle.ls_parser.proofs.class_trees.locked_member.Goals as goal

pub returns-in-Some-clause-places : goal.returns-in-Some-clause-places
returns-in-Some-clause-places c =
    locked_without_result c.method.result _ _ c.in-Some.ensures.placed c.method.ensures.places

pub returns-clause-places : goal.returns-clause-places
returns-clause-places c =
    locked_with_result c.method-2.result _ _ c.in_ok-type_name.ensures.places c.method-2.ensures.places
