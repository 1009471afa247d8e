-- Why `Moment::new` in src/moment.rt keeps its contract.

use Rattle.std.proofs.Common.{[], ap, ◌∙◌}
use Rattle.ls_trace.proofs.Calls.{zeros, zeros_is}
use Rattle.ls_choices.proofs.moment.Moment.new.Goals as goal

pub returns : goal.returns
returns c = record {
  history = [];
  stands = c.in_ok-playing.ensures;
  labels = c.new-2.ensures.items;
  calls = c.in_ok-calls.ensures ∙ ap zeros c.deref.ensures.value ∙ zeros_is c.args.names.program.now.threads.items;
}
