-- Why `unmodified` in src/class_trees.rt keeps its clause `places`.

use Rattle.ls_parser.proofs.Places.{without_result}
use Rattle.ls_parser.proofs.class_trees.unmodified.Goals as goal

pub returns-in-Some-clause-places : goal.returns-in-Some-clause-places
returns-in-Some-clause-places c =
    without_result c.method.result _ c.in-Some.ensures.placed c.new.ensures.items c.method.ensures.places
