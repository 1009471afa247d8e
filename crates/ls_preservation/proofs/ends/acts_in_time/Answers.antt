-- Why `acts_in_time` in src/ends.rt keeps its contract.

use Rattle.ls_preservation.proofs.Acts.{acts_right}
use Rattle.ls_preservation.proofs.ends.acts_in_time.Goals as goal

pub returns : goal.returns
returns c = λ file program code asks in_file in_program sound.
    acts_right file program code asks
    (record {
      renames = λ ρ r t had. c.next_renames.ensures file program in_file in_program ρ r t had;
      sound = sound.sound;
    })
