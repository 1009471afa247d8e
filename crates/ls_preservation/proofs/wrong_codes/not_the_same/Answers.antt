-- Why `not_the_same` in src/wrong_codes.rt keeps its contract.

use Rattle.ls_preservation.proofs.Refused.{still_not, fat_not, mute_not, swapped_not, fewer_not}
use Rattle.ls_preservation.proofs.wrong_codes.not_the_same.Goals as goal

pub returns : goal.returns
returns c = record { still = still_not; fat = fat_not; mute = mute_not; swapped = swapped_not; fewer = fewer_not }
