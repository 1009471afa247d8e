-- Why `rows` in src/lib.rt keeps its clauses `readable` and `unreadable`.

use Rattle.std.proofs.Common.{refl}
use Rattle.std.specs.Fmt.{digits}
use Rattle.ls_lexer.specs.Names.{is_name}
use Rattle.ls_meaning.specs.Methods.{invoke, depth_limit}
use Rattle.ls_text_laws.proofs.rows.Goals as goal

pub returns-clause-readable : goal.returns-clause-readable
unfolding digits is_name invoke depth_limit
returns-clause-readable c = (refl, refl, refl)

pub returns-clause-unreadable : goal.returns-clause-unreadable
unfolding is_name
returns-clause-unreadable c = (refl, refl)
