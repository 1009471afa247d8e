-- Why `called` in src/primaries.rt keeps its clauses `read` and `placed`.

use Rattle.ls_parser_spelling.proofs.Rows.{call_bare}
use Rattle.ls_parser_expressions.proofs.PlacedRows.{call_placed}
use Rattle.ls_parser_expressions.proofs.primaries.called.Goals as goal

pub returns-clause-read : goal.returns-clause-read
returns-clause-read c = call_bare c.args.target c.args.name c.args.arguments c.args.span

pub returns-clause-placed : goal.returns-clause-placed
returns-clause-placed c = call_placed c.args.target c.args.name c.args.arguments c.args.span
