-- Why `is_sound` in src/laws.rt keeps its contract.

use Rattle.ls_soundness.proofs.Threads.{is_sound}
use Rattle.ls_soundness.proofs.laws.is_sound.Goals as goal

pub returns : goal.returns
returns c = is_sound
