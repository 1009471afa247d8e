-- Why `Tables::keep_work` in src/tables.rt keeps its clause `grows`.

use Rattle.std.proofs.Common.{refl}
use Rattle.ls_transitions.proofs.tables.Tables.keep_work.Goals as goal

pub returns-clause-grows : goal.returns-clause-grows
returns-clause-grows c = record {
  file = refl;
  program = refl;
  stores = λ n x h. h;
  works = c.keep_work.ensures.keeps;
}
