-- Why `is_due_at` in src/placing.rt keeps its contract.

use Rattle.std.proofs.Common.{◌∙◌, Some, ap, refl}
use Rattle.ls_serial.proofs.Lists.{get_is, is_get}
use Rattle.ls_automaton.proofs.Entries.{not_both}
use Rattle.ls_serial_orders.proofs.placing.is_due_at.Goals as goal

pub returns-then-not-is_event : goal.returns-then-not-is_event
returns-then-not-is_event c = (
  λ found at. absurd (not_both (c.is_event.ensures.1 (get_is c.args.history.now c.args.i _ _ at))
      c.if-not-is_event.true),
  λ due. refl,
)

pub returns : goal.returns
returns c = (
  λ found at. c.are_ended.ensures.0 found,
  λ due. c.are_ended.ensures.1 (due (is_get c.args.history.now c.args.i _ c.requires
      ∙ ap Some (c.is_event.ensures.0 c.if-not-is_event.false))),
)
