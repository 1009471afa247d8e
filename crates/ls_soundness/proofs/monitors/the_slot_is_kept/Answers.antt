-- Why `the_slot_is_kept` in src/monitors.rt keeps its clauses `statement` and `method`.

use Rattle.ls_soundness.proofs.Held.{keeps_the_slot, method_keeps_the_slot}
use Rattle.ls_soundness.proofs.monitors.the_slot_is_kept.Goals as goal

pub returns-clause-statement : goal.returns-clause-statement
returns-clause-statement c = keeps_the_slot

pub returns-clause-method : goal.returns-clause-method
returns-clause-method c = method_keeps_the_slot
