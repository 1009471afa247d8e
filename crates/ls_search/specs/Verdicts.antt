-- What is told of all schedules of a program.
use Rattle.std.specs.Prelude.{◌≡◌, ◌⊎◌, ℕ, ◌++◌, Bool, false, List, length, replicate}
use Rattle.std.specs.List.{fold}
use Rattle.ls_events.specs.declared.event.Event.{Event}
use Rattle.ls_checked.specs.CheckedTree.{File}
use Rattle.ls_checked.specs.CheckedProgram.{Program}
use Rattle.ls_meaning.specs.declared.step.Did.TheVariants as did
use Rattle.ls_meaning.specs.Runs.{source_history, source_run, step}
use Rattle.ls_meaning.specs.Still.{IsActing, IsOver}
use Rattle.ls_search_laws.specs.Configuration.{configuration_of}
use Rattle.ls_search.specs.Closed.{HasClosed}
use Rattle.ls_search.specs.Objects.{HaveObjects, IsOther, most_objects}
use Rattle.ls_search.specs.Tried.{HasTried}

-- no schedule, of any length, has a bad history
abbrev pub AllGood : {S : Type 0} → S → (S → Event → S) → (S → Bool) → File → Program → Type 0
AllGood first next is_bad file program =
    (schedule : List ℕ) → is_bad (fold next first (source_history file program schedule)) ≡ false

-- after the schedule no thread acts, and one waits for a lock
pub record LeavesStuck (file : File) (program : Program) (schedule : List ℕ) : Type 0 where
  pub over : IsOver file program (source_run file program schedule)
  pub thread : ℕ
  pub waits : (step file program (source_run file program schedule) thread).did ≡ did.Waits

-- no schedule, of any length, leaves the threads so
abbrev pub NeverStuck : File → Program → Type 0
NeverStuck file program = (schedule : List ℕ) → LeavesStuck file program schedule → ⊥

-- after so many steps of the setup and these steps, the thread acts
abbrev pub ActsAfter : File → Program → ℕ → List ℕ → ℕ → Type 0
ActsAfter file program setup path thread =
    IsActing (step file program (source_run file program (replicate setup 0 ++ path)) thread).did

-- There are so many schedules after these steps of the setup. Each goes on from an earlier one by steps of a thread
-- that acts there, and no two go on from the same one by the same thread.
abbrev pub AreReached : File → Program → ℕ → ℕ → Type 0
AreReached file program setup states = HasTried (ActsAfter file program setup) states

-- There are so many states, from the one that these steps of the setup lead to. Whatever a thread does that acts at one
-- of them leads to one of them, but for steps that no other thread notices and for names of objects.
abbrev pub AreAll : File → Program → ℕ → ℕ → Type 0
AreAll file program setup states =
    HasClosed file (length program.threads)
    (configuration_of file program (source_run file program (replicate setup 0))) states

-- There are so many schedules after these steps of the setup, as above. The states to which they lead, but for names of
-- objects, have more than 4,194,304 objects together.
abbrev pub HaveManyObjects : File → Program → ℕ → ℕ → Type 0
HaveManyObjects file program setup states =
    HaveObjects (ActsAfter file program setup)
    (λ path c. IsOther c (configuration_of file program (source_run file program (replicate setup 0 ++ path))))
    states most_objects

-- if not all states are kept, there are as many as may be kept, or they have too many objects
abbrev pub IsCut : File → Program → ℕ → ℕ → ℕ → Type 0
IsCut file program limit setup states = (states ≡ limit) ⊎ HaveManyObjects file program setup states
