-- What the loop `at` of `set_calls` in src/finding.rt keeps.

use Rattle.std.proofs.Common.{◌≡◌, ℕ, drop, map}
use Rattle.std.specs.Prelude.{reverse}
use Rattle.ls_report.specs.Events.{Text}
use Rattle.ls_report.specs.Plain.{plain_event}
use Rattle.ls_orders.specs.Ends.{ended}
use Rattle.ls_orders.specs.SetCalls.{calls_from, end_of}
use Rattle.ls_orders.proofs.finding.set_calls.Given as goal

abbrev pub invariant-loop-at : goal.invariant-loop-at
invariant-loop-at l = record {
  ends : (thread : Text) (call : ℕ) →
      ended l.ends thread call ≡ end_of thread call l.at (drop l.at (map plain_event l.events));
  calls : reverse l.calls.items ≡ calls_from l.at (drop l.at (map plain_event l.events));
}
