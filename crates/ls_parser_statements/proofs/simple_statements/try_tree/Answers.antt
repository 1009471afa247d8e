-- Why `try_tree` in src/simple_statements.rt keeps its clauses `read` and `places`.

use Rattle.ls_parser_spelling.proofs.StatementRows.{try_bare}
use Rattle.ls_parser_statements.proofs.PlacedRows.{try_placed}
use Rattle.ls_parser_statements.proofs.simple_statements.try_tree.Goals as goal

pub returns-clause-read : goal.returns-clause-read
returns-clause-read c = try_bare c.args.body c.args.finally c.args.span

pub returns-clause-places : goal.returns-clause-places
returns-clause-places c = try_placed c.args.body c.args.finally c.args.span
