-- A printed schedule reads back as the same schedule.
use Rattle.ls_events.specs.Limits.{most_steps}
use Rattle.std.specs.Prelude.{◌≡◌, ◌≢◌, ◌<◌, ◌≤◌, ℕ, List, length, Some, Ok, All, codes, slice_get}
use Rattle.ls_lexer.specs.Names.{IsName}
use Rattle.ls_schedule.specs.Printing.{schedule_text}
use Rattle.ls_schedule.specs.Reading.{schedule_of}

-- Each of them is a name of the language (an identifier and no reserved word) other than `all`, and each stands once.
pub record AreThreadNames (names : List (List ℕ)) : Type 0 where
  pub formed : (i : ℕ) (name : List ℕ) → slice_get names i ≡ Some name → IsName name
  pub not_all : (i : ℕ) (name : List ℕ) → slice_get names i ≡ Some name → name ≢ codes "all"
  pub once : (i j : ℕ) (name : List ℕ) → slice_get names i ≡ Some name → slice_get names j ≡ Some name → i ≡ j

abbrev pub ReadsBack : Type 0
ReadsBack =
    (names : List (List ℕ)) (steps : List ℕ) → AreThreadNames names → All (λ t. t < length names) steps →
    length steps ≤ most_steps
    → schedule_of names (schedule_text names steps) ≡ Ok steps
