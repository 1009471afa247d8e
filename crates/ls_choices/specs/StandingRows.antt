-- The rows of the states that are kept, by where runs stand.
use Rattle.std.specs.Prelude.{◌≡◌, ℕ, List, Some, slice_get}
use Rattle.ls_labels.specs.Names.{Names}
use Rattle.ls_search_laws.specs.Configuration.{stride}
use Rattle.ls_trace.specs.Told.{Told}
use Rattle.ls_choices.specs.Rows.{Row}
use Rattle.ls_choices.specs.Schedules.{is_action, is_waiting, words_of}
use Rattle.ls_choices.specs.Standing.{Standing, StandsAt, standing_after}

-- the row of a thread at a state
pub record IsStandingRow (names : Names) (states : List Standing) (s : Standing) (thread : ℕ) (row : Row) : Type 0
  where
    pub words : (r : Told) → StandsAt names s r → row.words ≡ words_of names r thread
    pub acts : row.acts ≡ is_action (stride names.file s.configuration thread).did
    pub waits : row.waits ≡ is_waiting (stride names.file s.configuration thread).did
    pub leads : (number : ℕ) → row.to ≡ Some number →
        slice_get states number ≡ Some (standing_after names.file s thread)

-- the rows of the threads at a state
abbrev pub AreStandingRows : Names → List Standing → Standing → List Row → Type 0
AreStandingRows names states s rows = (thread : ℕ) (row : Row) → slice_get rows thread ≡ Some row →
    IsStandingRow names states s thread row

-- the rows of each state
abbrev pub AreStandingRowsOfAll : Names → List Standing → List (List Row) → Type 0
AreStandingRowsOfAll names states all = (number : ℕ) (s : Standing) (rows : List Row) →
    slice_get states number ≡ Some s → slice_get all number ≡ Some rows → AreStandingRows names states s rows
