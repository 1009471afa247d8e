-- Where a schedule is cut.
use Rattle.std.specs.Prelude.{◌≡◌, ◌<◌, ◌≤◌, ℕ, List, Option, None, Some, length, map, slice_get, take}
use Rattle.ls_events.specs.declared.event.Event.{Event as RunEvent}
use Rattle.ls_checked.specs.CheckedTree.{File}
use Rattle.ls_checked.specs.CheckedProgram.{Program}
use Rattle.ls_meaning.specs.Runs.{source_history}
use Rattle.ls_report.specs.Events.{Event}
use Rattle.ls_report.specs.Printing.{named}
use Rattle.ls_verdicts.specs.Hopeless.{IsIllegal}
use Rattle.ls_verdicts.specs.declared.least.Cut.{Cut}
use Rattle.ls_order_search.specs.Answers.{HasOrder, NoneIsLegal}

-- the history after so many of the schedule's steps
abbrev pub history_to : File → Program → List ℕ → ℕ → List RunEvent
history_to file program schedule n = source_history file program (take n schedule)

-- each event has its call's names, and the events so named have a legal order
abbrev pub IsLegalRun : Program → List RunEvent → Type 0
IsLegalRun program run = (events : List Event) × (map (named program) run ≡ map Some events) × HasOrder events

-- they have none
abbrev pub IsIllegalRun : Program → List RunEvent → Type 0
IsIllegalRun program run = (events : List Event) × (map (named program) run ≡ map Some events) × NoneIsLegal events

-- After so many steps the history has no legal order. After fewer it has one.
pub record IsCut (file : File) (program : Program) (schedule : List ℕ) (n : ℕ) : Type 0 where
  pub within : n ≤ length schedule
  pub illegal : IsIllegalRun program (history_to file program schedule n)
  pub legal : (m : ℕ) → m < n → IsLegalRun program (history_to file program schedule m)

-- the first number of steps after which more than `at` events have happened
pub record IsFirstPast (file : File) (program : Program) (schedule : List ℕ) (at n : ℕ) : Type 0 where
  pub within : n ≤ length schedule
  pub past : at < length (history_to file program schedule n)
  pub before : (m : ℕ) → m < n → length (history_to file program schedule m) ≤ at

-- ---- of several schedules

-- if the history of the whole schedule is illegal, that after fewer than so many steps has a legal order
abbrev pub IsNoShorter : File → Program → ℕ → List ℕ → Type 0
IsNoShorter file program n schedule =
    IsIllegal program (source_history file program schedule) → (m : ℕ) → m < n →
    IsLegalRun program (history_to file program schedule m)

-- The schedule at the place is illegal and is cut so, and no other of the schedules is cut shorter.
pub record IsLeast (file : File) (program : Program) (schedules : List (List ℕ)) (c : Cut) : Type 0 where
  pub schedule : List ℕ
  pub there : slice_get schedules c.place ≡ Some schedule
  pub illegal : IsIllegal program (source_history file program schedule)
  pub cut : IsCut file program schedule c.steps
  pub least : (p : ℕ) (other : List ℕ) →
      slice_get schedules p ≡ Some other →
      IsNoShorter file program c.steps other

-- The same of some cut; or none of the schedules is illegal.
abbrev pub IsLeastOf : File → Program → List (List ℕ) → Option Cut → Type 0
IsLeastOf file program schedules None =
    (p : ℕ) (other : List ℕ) →
    slice_get schedules p ≡ Some other →
    ¬ IsIllegal program (source_history file program other)
IsLeastOf file program schedules (Some cut) = IsLeast file program schedules cut
