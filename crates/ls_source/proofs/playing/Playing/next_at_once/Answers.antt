-- Why `Playing::next_at_once` in src/playing.rt keeps its clause `next`.

use Rattle.std.proofs.Common.{ap, ◌∙◌}
use Rattle.ls_events.specs.declared.action.Action.TheVariants.{Enter, Turn}
use Rattle.ls_meaning.specs.Threads.{Goes}
use Rattle.ls_meaning.specs.declared.sort.Sort.TheVariants.{NoValue}
use Rattle.ls_source_pending.specs.Seen.{control_of}
use Rattle.ls_source.specs.Calls.{asked_by}
use Rattle.ls_source.proofs.Standing.{next_is}
use Rattle.ls_source.proofs.playing.Playing.next_at_once.Goals as goal

pub returns-in-Some-Asks-clause-next : goal.returns-in-Some-Asks-clause-next
returns-in-Some-Asks-clause-next c =
    next_is c.args.self.now c.args.thread (Goes c.in-Some-Asks.action c.in-Some-Asks.sort)
    (c.in-Some-Asks.ensures ∙ ap (λ k. asked_by (control_of k)) c.in-Some-Asks.field-0-is)

pub returns-in-Some-Enters-clause-next : goal.returns-in-Some-Enters-clause-next
returns-in-Some-Enters-clause-next c =
    next_is c.args.self.now c.args.thread (Goes (Enter c.in-Some-Enters.m) NoValue)
    (c.in-Some-Enters.ensures ∙ ap (λ k. asked_by (control_of k)) c.in-Some-Enters.field-0-is)

pub returns-in-Some-Turns-clause-next : goal.returns-in-Some-Turns-clause-next
returns-in-Some-Turns-clause-next c =
    next_is c.args.self.now c.args.thread (Goes Turn NoValue)
    (c.in-Some-Turns.ensures ∙ ap (λ k. asked_by (control_of k)) c.in-Some-Turns.field-0-is)
