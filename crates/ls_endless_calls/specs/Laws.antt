-- Which programs have threads that wait for ever.
use Rattle.std.specs.Prelude.{◌≡◌, ℕ, List}
use Rattle.ls_events.specs.declared.event.Event.{Event}
use Rattle.ls_checked.specs.CheckedTree.{File}
use Rattle.ls_checked.specs.CheckedProgram.{Program}
use Rattle.ls_meaning.specs.declared.step.Did.TheVariants as did
use Rattle.ls_meaning.specs.Runs.{source_history, source_run, step}
use Rattle.ls_meaning.specs.Still.{IsOver}
use Rattle.ls_serial_search.specs.Endless.{AreEndlessRuns, IsEndlessRun, TellEndlessRuns}
use Rattle.ls_endless_calls.specs.Waits.{ExplainsAlone, IsPending, IsRunAmong}

-- In calls that run one at a time, and explain what has ended in h, this call comes next, and alone it never ends.
pub record NeverEndsSo (file : File) (program : Program) (h : List Event) (c : Event) : Type 0 where
  pub run : List Event
  pub endless : IsEndlessRun file program run
  pub call : endless.call ≡ c
  pub alone : ExplainsAlone endless.before h

-- After the schedule no thread acts, and this call waits. In no calls of the specification that run one at a time does
-- it never end so.
pub record WaitsForEver (sfile : File) (sprogram : Program) (file : File) (program : Program) (schedule : List ℕ)
    (c : Event) : Type 0 where
  pub over : IsOver file program (source_run file program schedule)
  pub pending : IsPending (source_history file program schedule) c
  pub alone : NeverEndsSo sfile sprogram (source_history file program schedule) c → ⊥

-- each call that waits where no thread acts never ends in calls of the specification that run one at a time
abbrev pub NoneWaitsForEver : File → Program → File → Program → Type 0
NoneWaitsForEver sfile sprogram file program =
    (schedule : List ℕ) (c : Event) → IsOver file program (source_run file program schedule) →
    IsPending (source_history file program schedule) c →
    NeverEndsSo sfile sprogram (source_history file program schedule) c

-- ---- threads that wait where no thread acts

-- where no thread acts, the thread of a pending call waits
abbrev pub PendingWaits : Type 0
PendingWaits =
    (file : File) (program : Program) (schedule : List ℕ) (c : Event) →
    IsOver file program (source_run file program schedule) → IsPending (source_history file program schedule) c →
    (step file program (source_run file program schedule) c.thread).did ≡ did.Waits

-- where no thread acts, none waits
abbrev pub NoThreadWaits : File → Program → Type 0
NoThreadWaits file program =
    (schedule : List ℕ) → IsOver file program (source_run file program schedule) →
    (t : ℕ) → (step file program (source_run file program schedule) t).did ≡ did.Waits → ⊥

-- then no call waits for ever
abbrev pub NoWaitNoneForEver : Type 0
NoWaitNoneForEver =
    (sfile : File) (sprogram : Program) (file : File) (program : Program) → NoThreadWaits file program →
    NoneWaitsForEver sfile sprogram file program

-- ---- what runs tell

-- of the runs up to a call that never ends, one that is to a call says that the call never ends so
abbrev pub AmongNeverEnds : Type 0
AmongNeverEnds =
    (file : File) (program : Program) (runs : List (List Event)) (h : List Event) (c : Event) →
    AreEndlessRuns file program runs → IsRunAmong runs h c → NeverEndsSo file program h c

-- if they are all, each call that never ends so is the last of one
abbrev pub NeverEndsIsAmong : Type 0
NeverEndsIsAmong =
    (file : File) (program : Program) (runs : List (List Event)) (h : List Event) (c : Event) →
    TellEndlessRuns file program runs → NeverEndsSo file program h c → IsRunAmong runs h c
