-- What legal serial histories explain is legal.
use Rattle.std.specs.Prelude.{◌≡◌, ◌<◌, ◌^◌, ℕ, List, Some, None, length, map}
use Rattle.std.specs.Prelude.{slice_get}
use Rattle.ls_events.specs.declared.event.Event.{Event as RunEvent}
use Rattle.ls_checked.specs.CheckedTree.{File}
use Rattle.ls_checked.specs.CheckedProgram.{Program, ThreadProgram}
use Rattle.ls_meaning.specs.Runs.{source_history}
use Rattle.ls_serial.specs.Serial.{Explains, IsSerial}
use Rattle.ls_linearizable.specs.Linearizable.{IsLinearizable}
use Rattle.ls_linearizable.specs.Once.{AreOnce}
use Rattle.ls_report.specs.Events.{Event}
use Rattle.ls_report.specs.Printing.{named}
use Rattle.ls_orders.specs.SetCalls.{first_foreign}
use Rattle.ls_order_search.specs.Answers.{HasOrder}
use Rattle.ls_explore_reports.specs.Verdicts.{HasLegalOrder}

-- Orders tell threads apart by their names, and calls by their decimal numbers, which are those of 64 bits.
pub record HasOwnNames (p : Program) : Type 0 where
  pub apart : (s t : ℕ) (a b : ThreadProgram) → slice_get p.threads s ≡ Some a → slice_get p.threads t ≡ Some b →
      a.name ≡ b.name → s ≡ t
  pub counted : (t : ℕ) (a : ThreadProgram) → slice_get p.threads t ≡ Some a → length a.calls < 2 ^ 64

-- the events of the run have these names
abbrev pub AreNamed : Program → List RunEvent → List Event → Type 0
AreNamed p run events = map (named p) run ≡ map Some events

-- A serial history explains another. If it has a legal order, so has the other, if all its calls are set calls on one
-- object: pending calls needn't be in the serial one.
abbrev pub ExplainedIsLegal : Type 0
ExplainedIsLegal =
    (p : Program) → HasOwnNames p → (g h : List RunEvent) (serial history : List Event) →
    AreNamed p g serial → AreNamed p h history → AreOnce g → AreOnce h → IsSerial g → Explains g h →
    first_foreign history ≡ None → HasOrder serial → HasOrder history

-- Where each serial history of schedules has a legal order, so has each history that is linearizable.
abbrev pub LinearizableIsLegal : Type 0
LinearizableIsLegal =
    (f : File) (p : Program) → HasOwnNames p →
    ((schedule : List ℕ) → IsSerial (source_history f p schedule) → HasLegalOrder p (source_history f p schedule)) →
    (h : List RunEvent) (history : List Event) → AreNamed p h history → AreOnce h → IsLinearizable f p h →
    first_foreign history ≡ None → HasOrder history
