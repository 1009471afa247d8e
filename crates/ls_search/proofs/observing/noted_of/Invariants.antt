-- What the loop `event` of `noted_of` in src/observing.rt keeps.

use Rattle.std.proofs.Common.{◌≡◌, take}
use Rattle.std.specs.List.{fold}
use Rattle.ls_search.proofs.observing.noted_of.Given as goal

abbrev pub invariant-loop-event : goal.invariant-loop-event
invariant-loop-event g l =
    g.O.Observer.stands l.observer l.noted ≡
    fold (g.O.Observer.next l.observer) (g.O.Observer.first l.observer) (take l.event-index l.events)
