-- Why `each_passed_is_sound` in src/laws.rt keeps its contract.

use Rattle.ls_find.proofs.Wholes.{each_passed_sound}
use Rattle.ls_find.proofs.laws.each_passed_is_sound.Goals as goal

pub returns : goal.returns
returns c = each_passed_sound
