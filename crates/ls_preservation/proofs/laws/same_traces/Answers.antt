-- Why `same_traces` in src/laws.rt keeps its contract.

use Rattle.ls_preservation.proofs.Theorem.{same_right}
use Rattle.ls_preservation.proofs.laws.same_traces.Goals as goal

pub returns : goal.returns
returns c = λ file program code asks in_file in_program sound.
    same_right file program code asks
    (record {
      renames = λ ρ r t had. c.next_renames.ensures file program in_file in_program ρ r t had;
      sound = sound.sound;
    })
