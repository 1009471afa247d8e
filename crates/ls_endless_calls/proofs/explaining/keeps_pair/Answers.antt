-- Why `keeps_pair` in src/explaining.rt keeps its contract.

use Rattle.std.proofs.Common.{◌∙◌, ap, refl, sym, Some}
use Rattle.ls_serial.proofs.Lists.{is_get}
use Rattle.ls_endless_calls.proofs.explaining.keeps_pair.Goals as goal

pub returns-else-not-is_event : goal.returns-else-not-is_event
returns-else-not-is_event c = (
  λ up e at_h at_g. c.are_ended.ensures.0 up,
  λ keeps. c.are_ended.ensures.1 (keeps _
      (is_get c.args.history.now c.args.at _ c.requires.within ∙ ap Some (sym (c.if-not-is_event.ensures.0 refl)))
      (is_get c.args.events.now c.args.place _ c.requires.inside)),
)
