-- The ghost values with which `live_agreements` in src/dids.rt calls.

use Rattle.ls_code.specs.Machine.{loaded}
use Rattle.ls_image.specs.Images.{code_of_image}
use Rattle.ls_live_trials.proofs.dids.live_agreements.Given as goal

abbrev pub ghosts-run_noted-L-Ledger : goal.ghosts-run_noted-L-Ledger
ghosts-run_noted-L-Ledger g a = record { name = a.blank.name; parts = a.blank.parts }

abbrev pub ghosts-run_noted-L-Session : goal.ghosts-run_noted-L-Session
ghosts-run_noted-L-Session g a = record {
  start = loaded (code_of_image a.image.now) 1000;
  limit = 250000;
  seats = a.blank.parts;
}
