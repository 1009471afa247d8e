-- Why `agrees` in src/placing.rt keeps its contract.

use Rattle.std.proofs.Common.{refl}
use Rattle.ls_automaton.proofs.Entries.{not_both}
use Rattle.ls_serial_orders.proofs.placing.agrees.Goals as goal

pub returns-then-is_end_of : goal.returns-then-is_end_of
returns-then-is_end_of c = (
  λ found ends. c.is_event.ensures.0 found,
  λ agrees. c.is_event.ensures.1 (agrees (c.is_end_of.ensures.0 c.if-is_end_of.true)),
)

pub returns : goal.returns
returns c = (
  λ found ends. absurd (not_both (c.is_end_of.ensures.1 ends) c.if-is_end_of.false),
  λ agrees. refl,
)
