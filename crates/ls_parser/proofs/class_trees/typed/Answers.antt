-- Why `typed` in src/class_trees.rt keeps its clause `places`.

use Rattle.ls_tree.specs.PlacedStatements.{placed_type}
use Rattle.ls_parser_spelling.specs.Places.{spots}
use Rattle.ls_parser.proofs.Places.{with_result}
use Rattle.ls_parser.proofs.class_trees.typed.Goals as goal

pub returns-then-starts_call-clause-places : goal.returns-then-starts_call-clause-places
returns-then-starts_call-clause-places c =
    with_result c.method.result _ (placed_type c.args.type_name) (spots c.args.tokens.now) c.new.ensures.items
    c.method.ensures.places
