-- The states that are kept, and the next step of each thread in them.
use Rattle.std.specs.Prelude.{◌≡◌, ◌≤◌, ◌<◌, ◌+◌, ◌-◌, ◌/◌, ◌⊎◌, ℕ, Bool, List, Option, None, Some, length, min}
use Rattle.std.specs.Prelude.{slice_get, sum_by, take}
use Rattle.ls_checked.specs.CheckedProgram.{Program}
use Rattle.ls_report.specs.Events.{Text}
use Rattle.ls_labels.specs.Names.{Names}
use Rattle.ls_trace.specs.Told.{Told, after_step}
use Rattle.ls_choices.specs.Schedules.{acts, told_after, waits, words_of}
use Rattle.ls_choices.specs.Alike.{Alike}

-- a step of a thread: what is told of it, whether it does anything, whether it waits, and the number of the state after
-- it, if that is kept
pub record Row : Type 0 where
  pub words : Text
  pub acts : Bool
  pub waits : Bool
  pub to : Option ℕ

-- for each state the schedule by which it was found first, and a row for each thread, the setup first
pub record Graph : Type 0 where
  pub paths : List (List ℕ)
  pub rows : List (List Row)

-- the state of this number is like that after a run
pub record LeadsTo (names : Names) (paths : List (List ℕ)) (r : Told) (number : ℕ) : Type 0 where
  pub path : List ℕ
  pub found : slice_get paths number ≡ Some path
  pub alike : Alike names r (told_after names path)

-- the row of a thread after a run
pub record IsRow (names : Names) (paths : List (List ℕ)) (r : Told) (thread : ℕ) (row : Row) : Type 0 where
  pub words : row.words ≡ words_of names r thread
  pub acts : row.acts ≡ acts names r thread
  pub waits : row.waits ≡ waits names r thread
  pub leads : (number : ℕ) → row.to ≡ Some number → LeadsTo names paths (after_step names r thread) number

-- the rows of the threads after a run
abbrev pub AreRows : Names → List (List ℕ) → Told → List Row → Type 0
AreRows names paths r rows = (thread : ℕ) (row : Row) → slice_get rows thread ≡ Some row →
    IsRow names paths r thread row

-- the rows of each state
abbrev pub AreRowsOfAll : Names → List (List ℕ) → List (List Row) → Type 0
AreRowsOfAll names paths all = (number : ℕ) (path : List ℕ) (rows : List Row) → slice_get paths number ≡ Some path →
    slice_get all number ≡ Some rows → AreRows names paths (told_after names path) rows

-- what the state after a schedule weighs: 1 for each object, and 1 for each 16 steps
abbrev pub weight_of : Names → List ℕ → ℕ
weight_of names path = length (told_after names path).state.store.things + length path / 16

-- the most that the states that are kept weigh together, but for the last of them
abbrev pub most_weight : ℕ
most_weight = 4194304

-- there are so many, or they weigh more than that
abbrev pub IsFull : {A : Type 0} → (A → ℕ) → ℕ → List A → Type 0
IsFull weighs most states = (most ≤ length states) ⊎ (most_weight < sum_by weighs states)

-- all but the last weigh no more than that
abbrev pub AreLight : {A : Type 0} → (A → ℕ) → List A → Type 0
AreLight weighs states = sum_by weighs (take (length states - 1) states) ≤ most_weight

-- a step leads to no state that is kept only where this holds
abbrev pub AreRowsCut : Type 0 → List Row → Type 0
AreRowsCut Full rows = (thread : ℕ) (row : Row) → slice_get rows thread ≡ Some row → row.to ≡ None → Full

abbrev pub AreCut : Type 0 → List (List Row) → Type 0
AreCut Full all = (number : ℕ) (rows : List Row) → slice_get all number ≡ Some rows → AreRowsCut Full rows

-- each state has so many rows
abbrev pub HaveRows : ℕ → List (List Row) → Type 0
HaveRows count all = (number : ℕ) (rows : List Row) → slice_get all number ≡ Some rows → length rows ≡ count

-- a row for each thread; a step's number is below 256, so no more threads have one
abbrev pub rows_of_threads : Program → ℕ
rows_of_threads program = min (length program.threads) 256

-- the graph of a program's states from the end of a schedule on
pub record IsGraphFrom (names : Names) (first : List ℕ) (g : Graph) : Type 0 where
  pub begins : slice_get g.paths 0 ≡ Some first
  pub rows : AreRowsOfAll names g.paths g.rows
