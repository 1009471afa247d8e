-- Why `any_units_ask` in src/laws.rt keeps its contract.

use Rattle.ls_linker.proofs.Linked.{linked_asks}
use Rattle.ls_linker.proofs.UnitRuns.{each_within}
use Rattle.ls_linker.proofs.laws.any_units_ask.Goals as goal

pub returns : goal.returns
returns c = λ file program lowered units asks stand typed. linked_asks file program lowered units asks stand.takes
    (each_within units stand.rows) stand.ask typed
