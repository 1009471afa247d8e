-- Why `new_object` in src/primaries.rt keeps its clauses `read` and `placed`.

use Rattle.ls_parser_spelling.proofs.Rows.{new_bare}
use Rattle.ls_parser_expressions.proofs.PlacedRows.{new_placed}
use Rattle.ls_parser_expressions.proofs.primaries.new_object.Goals as goal

pub returns-clause-read : goal.returns-clause-read
returns-clause-read c = new_bare c.args.class c.args.arguments c.args.span

pub returns-clause-placed : goal.returns-clause-placed
returns-clause-placed c = new_placed c.args.class c.args.arguments c.args.span
