-- Why `reads_what_is_spelled` in src/lib.rt keeps its clauses `law`, `one` and `named`.

use Rattle.ls_types_programs.proofs.Names as names
use Rattle.ls_types_programs.proofs.Whole as whole
use Rattle.ls_types_programs.proofs.reads_what_is_spelled.Goals as goal

pub returns-clause-law : goal.returns-clause-law
returns-clause-law c = whole.reads_what_is_spelled

pub returns-clause-one : goal.returns-clause-one
returns-clause-one c = whole.one_program

pub returns-clause-named : goal.returns-clause-named
returns-clause-named c = names.threads_are_named
