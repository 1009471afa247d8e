-- The ghost values with which `live_answers` in src/live_memory.rt calls.

use Rattle.ls_code.specs.Machine.{loaded}
use Rattle.ls_image.specs.Images.{code_of_image}
use Rattle.ls_live_trials.proofs.live_memory.live_answers.Given as goal

abbrev pub ghosts-answers_of-L-Ledger : goal.ghosts-answers_of-L-Ledger
ghosts-answers_of-L-Ledger g a = record { name = a.blank.name; parts = a.blank.parts }

abbrev pub ghosts-answers_of-L-Session : goal.ghosts-answers_of-L-Session
ghosts-answers_of-L-Session g a = record {
  start = loaded (code_of_image a.image.now) 1000;
  limit = 100000;
  seats = a.blank.parts;
}
