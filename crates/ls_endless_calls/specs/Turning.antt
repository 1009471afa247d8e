-- Calls that never end where threads turn for ever.
use Rattle.std.specs.Prelude.{ℕ, List}
use Rattle.ls_checked.specs.CheckedTree.{File}
use Rattle.ls_checked.specs.CheckedProgram.{Program}
use Rattle.ls_events.specs.declared.event.Event.{Event}
use Rattle.ls_meaning.specs.Runs.{source_history}
use Rattle.ls_spinning.specs.Turning.{TurnsForEver}
use Rattle.ls_endless_calls.specs.Laws.{NeverEndsSo}
use Rattle.ls_endless_calls.specs.Waits.{IsPending}
use Rattle.ls_endless_calls.specs.declared.finding.Endless.{Endless}
use Rattle.ls_endless_calls.specs.declared.finding.Endless.TheVariants as endless

-- After the schedule threads turn for ever, and this call has begun and hasn't ended. In no calls of the specification
-- that run one at a time does it never end so.
pub record TurnsUnexcused (sfile : File) (sprogram : Program) (file : File) (program : Program) (schedule : List ℕ)
    (c : Event) : Type 0 where
  pub turns : TurnsForEver file program schedule
  pub pending : IsPending (source_history file program schedule) c
  pub alone : NeverEndsSo sfile sprogram (source_history file program schedule) c → ⊥

abbrev pub HasTurning : File → Program → File → Program → List ℕ → Type 0
HasTurning sfile sprogram file program schedule = (c : Event) × TurnsUnexcused sfile sprogram file program schedule c

-- each call that is pending where threads turn for ever never ends in calls of the specification that run one at a time
abbrev pub NoneTurnsUnexcused : File → Program → File → Program → Type 0
NoneTurnsUnexcused sfile sprogram file program =
    (schedule : List ℕ) (c : Event) → TurnsForEver file program schedule →
    IsPending (source_history file program schedule) c →
    NeverEndsSo sfile sprogram (source_history file program schedule) c

-- there is no such call, or there is one after this schedule, or nothing is said
abbrev pub IsEndless : File → Program → File → Program → Endless → Type 0
IsEndless sfile sprogram file program endless.Never = NoneTurnsUnexcused sfile sprogram file program
IsEndless sfile sprogram file program (endless.After schedule) = HasTurning sfile sprogram file program schedule
IsEndless sfile sprogram file program endless.Unknown = Unit {0}
