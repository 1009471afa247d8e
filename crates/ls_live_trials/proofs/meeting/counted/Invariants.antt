-- The ghost values with which `counted` in src/meeting.rt calls.

use Rattle.ls_code.specs.Machine.{loaded}
use Rattle.ls_image.specs.Images.{code_of_image}
use Rattle.ls_live_trials.proofs.meeting.counted.Given as goal

abbrev pub ghosts-run_counted-L-Ledger : goal.ghosts-run_counted-L-Ledger
ghosts-run_counted-L-Ledger g a = record { name = a.blank.name; parts = a.blank.parts }

abbrev pub ghosts-run_counted-L-Session : goal.ghosts-run_counted-L-Session
ghosts-run_counted-L-Session g a = record {
  start = loaded (code_of_image a.image.now) 1000;
  limit = 1000000;
  seats = a.blank.parts;
}
