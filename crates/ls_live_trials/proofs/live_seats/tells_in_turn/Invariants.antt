-- The ghost values with which `tells_in_turn` in src/live_seats.rt calls.

use Rattle.ls_code.specs.Machine.{loaded}
use Rattle.ls_image.specs.Images.{code_of_image}
use Rattle.ls_live_trials.proofs.live_seats.tells_in_turn.Given as goal

abbrev pub ghosts-is_told_in_turn-L-Ledger : goal.ghosts-is_told_in_turn-L-Ledger
ghosts-is_told_in_turn-L-Ledger g a = record { name = a.blank.name; parts = a.blank.parts }

abbrev pub ghosts-is_told_in_turn-L-Session : goal.ghosts-is_told_in_turn-L-Session
ghosts-is_told_in_turn-L-Session g a = record {
  start = loaded (code_of_image a.image.now) 1000;
  limit = 100;
  seats = a.blank.parts;
}
