-- The ghost values with which `first_of` in src/live_seats.rt calls.

use Rattle.ls_code.specs.Machine.{loaded}
use Rattle.ls_image.specs.Images.{code_of_image}
use Rattle.ls_live_trials.proofs.live_seats.first_of.Given as goal

abbrev pub ghosts-first_answer-L-Ledger : goal.ghosts-first_answer-L-Ledger
ghosts-first_answer-L-Ledger g a = record { name = a.blank.name; parts = a.blank.parts }

abbrev pub ghosts-first_answer-L-Session : goal.ghosts-first_answer-L-Session
ghosts-first_answer-L-Session g a = record {
  start = loaded (code_of_image a.image.now) 1000;
  limit = a.limit;
  seats = a.blank.parts;
}
