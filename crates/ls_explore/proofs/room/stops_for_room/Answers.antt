-- Why `stops_for_room` in src/room.rt keeps its contract.

use Rattle.ls_explore.proofs.Stopping.{stops_right}
use Rattle.ls_explore.proofs.room.stops_for_room.Goals as goal

pub returns : goal.returns
returns c = λ file program code asks in_file in_program sound.
    stops_right file program code asks
    (record {
      renames = λ ρ r t had. c.next_renames.ensures file program in_file in_program ρ r t had;
      sound = sound.sound;
    })
