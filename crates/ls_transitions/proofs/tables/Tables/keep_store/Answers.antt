-- Why `Tables::keep_store` in src/tables.rt keeps its clause `grows`.

use Rattle.std.proofs.Common.{refl}
use Rattle.ls_transitions.proofs.tables.Tables.keep_store.Goals as goal

pub returns-clause-grows : goal.returns-clause-grows
returns-clause-grows c = record {
  file = refl;
  program = refl;
  stores = c.keep_store.ensures.keeps;
  works = λ n x h. h;
}
