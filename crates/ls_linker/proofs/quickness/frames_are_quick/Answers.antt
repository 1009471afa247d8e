-- Why `frames_are_quick` in src/quickness.rt keeps its contract.

use Rattle.ls_linker.proofs.Framed.{frames_quick}
use Rattle.ls_linker.proofs.quickness.frames_are_quick.Goals as goal

pub returns : goal.returns
returns c = frames_quick
