-- Why `synchronized_tree` in src/simple_statements.rt keeps its clauses `read` and `places`.

use Rattle.ls_parser_spelling.proofs.StatementRows.{synchronized_bare}
use Rattle.ls_parser_statements.proofs.PlacedRows.{synchronized_placed}
use Rattle.ls_parser_statements.proofs.simple_statements.synchronized_tree.Goals as goal

pub returns-clause-read : goal.returns-clause-read
returns-clause-read c = synchronized_bare c.args.target c.args.body c.args.span

pub returns-clause-places : goal.returns-clause-places
returns-clause-places c = synchronized_placed c.args.target c.args.body c.args.span
