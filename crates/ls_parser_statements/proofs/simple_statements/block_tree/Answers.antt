-- Why `block_tree` in src/simple_statements.rt keeps its clauses `read` and `places`.

use Rattle.ls_parser_spelling.proofs.StatementRows.{block_bare}
use Rattle.ls_parser_statements.proofs.PlacedRows.{block_placed}
use Rattle.ls_parser_statements.proofs.simple_statements.block_tree.Goals as goal

pub returns-clause-read : goal.returns-clause-read
returns-clause-read c = block_bare c.args.block

pub returns-clause-places : goal.returns-clause-places
returns-clause-places c = block_placed c.args.block
