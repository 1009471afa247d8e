-- Why `new_markable` in src/primaries.rt keeps its clauses `read` and `placed`.

use Rattle.ls_parser_spelling.proofs.Rows.{new_markable_bare}
use Rattle.ls_parser_expressions.proofs.PlacedRows.{new_markable_placed}
use Rattle.ls_parser_expressions.proofs.primaries.new_markable.Goals as goal

pub returns-clause-read : goal.returns-clause-read
returns-clause-read c = new_markable_bare c.args.class c.args.arguments c.args.span

pub returns-clause-placed : goal.returns-clause-placed
returns-clause-placed c = new_markable_placed c.args.class c.args.arguments c.args.span
