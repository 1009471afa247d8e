-- What the loop `event` of `number_of` in src/keys.rt keeps.

use Rattle.std.proofs.Common.{◌≡◌, drop}
use Rattle.ls_batch.specs.Numbers.{number_onto}
use Rattle.ls_batch.proofs.keys.number_of.Given as goal

abbrev pub invariant-loop-event : goal.invariant-loop-event
invariant-loop-event l = number_onto l.number (drop l.event-index l.events) ≡ number_onto 0 l.events
