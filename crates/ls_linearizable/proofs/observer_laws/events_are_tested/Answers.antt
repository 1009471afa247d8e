-- Why `events_are_tested` in src/observer_laws.rt keeps its contract.

use Rattle.ls_linearizable.proofs.Same.{event_test}
use Rattle.ls_linearizable.proofs.observer_laws.events_are_tested.Goals as goal

pub returns : goal.returns
returns c = event_test
