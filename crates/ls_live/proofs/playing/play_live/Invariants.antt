-- The ghost values with which `play_live` in src/playing.rt calls.

use Rattle.ls_code.specs.Machine.{loaded}
use Rattle.ls_image.specs.Images.{code_of_image}
use Rattle.ls_live.proofs.playing.play_live.Given as goal

abbrev pub ghosts-played-L-Ledger : goal.ghosts-played-L-Ledger
ghosts-played-L-Ledger g a = record { name = a.blank.name; parts = a.blank.parts }

abbrev pub ghosts-played-L-Session : goal.ghosts-played-L-Session
ghosts-played-L-Session g a = record {
  start = loaded (code_of_image a.image.now) a.bounds.cells;
  limit = a.bounds.limit;
  seats = a.blank.parts;
}
