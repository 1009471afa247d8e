-- Why `PairsObserverObserver::is_bad` in src/observing.rt keeps its contract.

use Rattle.std.proofs.Common.{◌∙◌, ap}
use Rattle.ls_automaton.specs.Held.{leaves_none}
use Rattle.ls_linearizable.specs.Judging.{now}
use Rattle.ls_source_judge.proofs.Steps.{none_left}
use Rattle.ls_source_judge.proofs.observing.PairsObserverObserver.is_bad.Goals as goal

pub returns : goal.returns
returns c =
    c.is_empty.ensures ∙ none_left c.args.self.now.rows.items c.pairs.result.now
    ∙ ap (λ p. now (leaves_none c.args.self.now.rows.items p)) c.pairs.ensures
