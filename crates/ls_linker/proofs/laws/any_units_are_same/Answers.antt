-- Why `any_units_are_same` in src/laws.rt keeps its contract.

use Rattle.ls_linker.specs.Linked.{linked}
use Rattle.ls_linker.proofs.laws.any_units_are_same.Goals as goal

pub returns : goal.returns
returns c = λ file program lowered units asks stand typed classes reads constants program_constants.
    c.same_traces.ensures file program (linked file program units)
    (c.any_units_ask.ensures file program lowered units asks stand reads) constants program_constants
    (c.is_sound.ensures file program typed classes reads)
