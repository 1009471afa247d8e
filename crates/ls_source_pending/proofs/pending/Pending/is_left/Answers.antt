-- Why `Pending::is_left` in src/pending.rt keeps its contract.

use Rattle.std.proofs.Common.{sym, ap, ◌∙◌}
use Rattle.ls_source_pending.specs.Filled.{is_some}
use Rattle.ls_source_pending.proofs.Stacks.{gives_left, ends_left}
use Rattle.ls_source_pending.proofs.pending.Pending.is_left.Goals as goal

pub returns-in-Gives : goal.returns-in-Gives
returns-in-Gives c = rw c.in-Gives.is (c.has_some.ensures ∙ ap is_some c.deref.ensures.value ∙
    sym (gives_left c.in-Gives.field-0 c.args.self.now.frames.items))

pub returns-in-Ends : goal.returns-in-Ends
returns-in-Ends c = rw c.in-Ends.is (c.has_some-in-Ends.ensures ∙ ap is_some c.deref-in-Ends.ensures.value ∙
    sym (ends_left c.in-Ends.field-0 c.args.self.now.frames.items))
