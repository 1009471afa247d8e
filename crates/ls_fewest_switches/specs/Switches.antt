-- Context switches of schedules.
use Rattle.std.specs.Prelude.{◌≡◌, ◌≤◌, ◌-◌, ℕ, Bool, true, false, List}
use Rattle.std.specs.List.{fold}
use Rattle.ls_events.specs.declared.event.Event.{Event}
use Rattle.ls_checked.specs.CheckedTree.{File}
use Rattle.ls_checked.specs.CheckedProgram.{Program}
use Rattle.ls_meaning.specs.Runs.{source_history}
use Rattle.ls_graph.specs.Costs.{changes}
use Rattle.ls_search.specs.Verdicts.{LeavesStuck}

-- A context switch is a step of another thread than the step before. The first such step, with which the setup is left,
-- isn't counted.
abbrev pub switches : List ℕ → ℕ
switches schedule = changes 0 schedule - 1

-- it ends as is asked: no thread acts after it and one waits, or whatever threads do
abbrev pub EndsSo : Bool → File → Program → List ℕ → Type 0
EndsSo true file program schedule = LeavesStuck file program schedule
EndsSo false file program schedule = Unit {0}

-- no schedule, of any length, whose history is one of these and that ends as is asked has fewer context switches
abbrev pub HasFewestOf : (List Event → Type 0) → Bool → File → Program → List ℕ → Type 0
HasFewestOf IsOne stuck file program schedule =
    (s : List ℕ) → IsOne (source_history file program s) → EndsSo stuck file program s → switches schedule ≤ switches s

-- so it is of those that have its own history
abbrev pub HasFewest : Bool → File → Program → List ℕ → Type 0
HasFewest stuck file program schedule =
    HasFewestOf (λ h. h ≡ source_history file program schedule) stuck file program schedule

-- no schedule after which no thread acts and one waits has fewer
abbrev pub HasFewestStuck : File → Program → List ℕ → Type 0
HasFewestStuck file program schedule =
    (s : List ℕ) → LeavesStuck file program s → switches schedule ≤ switches s

-- an observer calls the history bad
abbrev pub IsSought : {S : Type 0} → S → (S → Event → S) → (S → Bool) → List Event → Type 0
IsSought first next is_bad h = is_bad (fold next first h) ≡ true
