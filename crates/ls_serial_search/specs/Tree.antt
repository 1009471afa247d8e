-- The tree of searched schedules: each but the empty one is another with a thread's next call.
use Rattle.std.specs.Prelude.{◌≡◌, ◌⊎◌, ℕ, ◌<◌, List, [], ◌∷◌, ◌++◌, Some, slice_get}
use Rattle.ls_events.specs.declared.event.Event.{Event}
use Rattle.ls_checked.specs.CheckedTree.{File}
use Rattle.ls_checked.specs.CheckedProgram.{Program}
use Rattle.ls_meaning.specs.Runs.{source_history}
use Rattle.ls_serial_search.specs.Following.{called}

-- no two of the schedules have one history
abbrev pub AreApart : File → Program → List (List ℕ) → Type 0
AreApart file program known = (i j : ℕ) (one other : List ℕ) → slice_get known i ≡ Some one →
    slice_get known j ≡ Some other → source_history file program one ≡ source_history file program other → i ≡ j

-- The schedule has a call of a thread more than another of them: than one before a place, or than the one at the place,
-- and then of a thread with a lesser number.
pub record IsChild (file : File) (program : Program) (known : List (List ℕ)) (place thread : ℕ) (schedule : List ℕ) :
    Type 0 where
  pub at : ℕ
  pub parent : List ℕ
  pub there : slice_get known at ≡ Some parent
  pub own : ℕ
  pub before : (at < place) ⊎ ((at ≡ place) × (own < thread))
  pub call : ℕ
  pub end : Event
  pub is : source_history file program schedule ≡ source_history file program parent ++ called own call ∷ end ∷ []

-- each but the empty one is such a schedule, and no two have one history
pub record IsTree (file : File) (program : Program) (known : List (List ℕ)) (place thread : ℕ) : Type 0 where
  pub each : (i : ℕ) (schedule : List ℕ) → slice_get known i ≡ Some schedule →
      (schedule ≡ []) ⊎ IsChild file program known place thread schedule
  pub apart : AreApart file program known
