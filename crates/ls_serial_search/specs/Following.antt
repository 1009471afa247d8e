-- Which threads are between their calls, and what comes of a thread's next call while no other thread goes on.
pub use Rattle.ls_search_laws.specs.Stepping.{events_in, events_of}
use Rattle.std.specs.Prelude.{◌≡◌, ◌⊎◌, ℕ, ◌+◌, ◌<◌, List, [], ◌∷◌, ◌++◌, Contains, replicate}
use Rattle.ls_events.specs.declared.value.Value.{Value}
use Rattle.ls_events.specs.declared.action.Action.{Action}
use Rattle.ls_events.specs.declared.action.Action.TheVariants.{Call}
use Rattle.ls_events.specs.declared.event.Event.{Event}
use Rattle.ls_events.specs.declared.event.Happening.TheVariants.{Called}
use Rattle.ls_checked.specs.CheckedTree.{File}
use Rattle.ls_checked.specs.CheckedProgram.{Program}
use Rattle.ls_meaning.specs.Still.{IsStill}
use Rattle.ls_meaning.specs.Threads.{Next, Goes, Ended, Trapped, next}
use Rattle.ls_meaning.specs.Runs.{State, answers_of, source_history, source_run, step}

-- a call's first event
abbrev pub called : ℕ → ℕ → Event
called thread n = record { thread = thread; call = n; happening = Called }

-- ---- threads between their calls

abbrev pub IsCalling : Action Value → Type 0
IsCalling (Call n) = Unit {0}
IsCalling _ = ⊥

-- a call comes next, or nothing
abbrev pub CallsNext : Next → Type 0
CallsNext (Goes action sort) = IsCalling action
CallsNext Ended = Unit {0}
CallsNext Trapped = Unit {0}

abbrev pub IsBetween : File → Program → State → ℕ → Type 0
IsBetween file program s thread = CallsNext (next file program thread (answers_of s thread))

-- ---- calls that are followed

-- After the schedule the thread's next call has begun and not ended, for so many steps of the thread.
pub record IsBegun (file : File) (program : Program) (schedule : List ℕ) (thread call steps : ℕ) : Type 0 where
  pub is : (j : ℕ) → j < steps →
      source_history file program (schedule ++ replicate (j + 1) thread) ≡ source_history file program schedule ++
      called thread call ∷ []

-- However many steps the thread makes, nothing more comes than that its next call begins. So alone the call never ends:
-- its thread waits, or it turns for ever.
abbrev pub NeverEnds : File → Program → List ℕ → ℕ → ℕ → Type 0
NeverEnds file program schedule thread call = (steps : ℕ) → IsBegun file program schedule thread call steps

-- the call ends with one step more, and the schedule with these steps is one of those that are known
pub record EndsKnown (file : File) (program : Program) (known : List (List ℕ)) (schedule : List ℕ) (thread : ℕ) : Type 0
  where
    pub call : ℕ
    pub steps : ℕ
    pub begun : IsBegun file program schedule thread call steps
    pub there : Contains known (schedule ++ replicate (steps + 1) thread)

-- the thread doesn't act; or its next call never ends; or it ends, and that is known
abbrev pub IsFollowed : File → Program → List (List ℕ) → List ℕ → ℕ → Type 0
IsFollowed file program known schedule thread =
    IsStill (step file program (source_run file program schedule) thread).did
    ⊎ (((call : ℕ) × NeverEnds file program schedule thread call) ⊎ EndsKnown file program known schedule thread)
