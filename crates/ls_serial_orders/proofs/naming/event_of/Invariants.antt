-- What the loop `number` of `event_of` in src/naming.rt keeps.

use Rattle.std.proofs.Common.{◌≡◌, ◌<◌, ℕ, Some}
use Rattle.std.specs.Prelude.{slice_get}
use Rattle.ls_checked.specs.CheckedProgram.{ThreadProgram}
use Rattle.ls_checked.specs.PlainProgram.{plain_program}
use Rattle.ls_events.specs.declared.event.Happening.{Happening}
use Rattle.ls_report.specs.Plain.{plain_event}
use Rattle.ls_serial_orders.specs.Named.{HasName}
use Rattle.ls_serial_orders.proofs.naming.event_of.Given as goal

-- it is no event of the threads so far
abbrev pub invariant-loop-number : goal.invariant-loop-number
invariant-loop-number l =
    (k : ℕ) → k < l.number → (t : ThreadProgram) (h : Happening) → slice_get (plain_program l.program).threads k ≡
    Some t →
    HasName (plain_program l.program) t h (plain_event l.event) → ⊥
