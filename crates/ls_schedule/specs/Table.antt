-- A table of the names of one byte.
use Rattle.std.specs.Prelude.{◌≡◌, ◌<◌, ◌≤◌, ℕ, false, true, List, [], ◌∷◌, length, slice_index, Ok}
use Rattle.ls_items.specs.Items.{is_gap}
use Rattle.ls_schedule.specs.Answers.{capped_turns}
use Rattle.ls_schedule.specs.Pieces.{ends_word}

-- If a byte has an entry, the byte alone is an item of one step of that thread.
abbrev pub IsTable : List (List ℕ) → List ℕ → Type 0
IsTable names table =
    (b : ℕ) → b < 256 → slice_index table b < 255
    → (ends_word b ≡ false) × ((at : ℕ) → capped_turns names (at, b ∷ []) ≡ Ok (slice_index table b ∷ [], 1))

-- A text begins with a byte that has this entry, and with a gap after it.
pub record IsShort (table text : List ℕ) (thread : ℕ) : Type 0 where
  pub two : 2 ≤ length text
  pub gap : is_gap (slice_index text 1) ≡ true
  pub byte : slice_index text 0 < 256
  pub entry : thread ≡ slice_index table (slice_index text 0)
  pub known : thread < 255
