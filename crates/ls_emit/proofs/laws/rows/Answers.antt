-- Why `rows` in src/laws.rt keeps its contract.

use Rattle.std.proofs.Common.{refl}
use Rattle.ls_lowered.specs.Methods.{invoke}
use Rattle.ls_emit.proofs.Reader.{is_there}
use Rattle.ls_emit.proofs.laws.rows.Goals as goal

pub returns : goal.returns
unfolding invoke
returns c = (refl, refl, refl, refl, refl, (refl, refl, refl, refl, refl, refl, refl), is_there)
