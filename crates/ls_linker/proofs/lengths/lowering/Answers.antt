-- Why `lowering` in src/lengths.rt keeps its clauses `method` and `file`.

use Rattle.ls_linker.proofs.Copies.{lowers_few, counts_written}
use Rattle.ls_linker.proofs.lengths.lowering.Goals as goal

pub returns-clause-method : goal.returns-clause-method
returns-clause-method c = lowers_few

pub returns-clause-file : goal.returns-clause-file
returns-clause-file c = counts_written
