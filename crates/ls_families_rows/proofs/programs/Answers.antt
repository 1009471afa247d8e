-- Why `programs` in src/lib.rt keeps its contract.

use Rattle.std.proofs.Common.{refl}
use Rattle.ls_families_rows.proofs.programs.Goals as goal

pub returns : goal.returns
returns c = record {
  by_number = (refl, refl, refl, refl, refl, refl, refl, refl);
  by_making = (refl, refl, refl, refl, refl, refl, refl, refl, refl);
  none_after = refl;
  counts = (refl, refl, refl, refl, refl, refl);
  doubles = (refl, refl, refl, refl, refl, refl, refl);
  others = (refl, refl, refl, refl, refl);
  numbered = (refl, refl, refl, refl);
  texts = (refl, refl, refl, refl);
}
