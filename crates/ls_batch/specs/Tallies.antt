-- The tally of histories.
use Rattle.std.specs.Prelude.{◌≡◌, ◌≢◌, ℕ, ◌+◌, ◌<◌, List, [], ◌∷◌, slice_get, Some}
use Rattle.ls_events.specs.declared.event.Event.{Event}

abbrev pub History : Type 0
History = List Event

-- a history, how many seeds gave it, and the least of them
pub record Row : Type 0 where
  pub history : History
  pub count : ℕ
  pub seed : ℕ

abbrev pub row : History → ℕ → ℕ → Row
row h n s = record { history = h; count = n; seed = s }

-- the history stands so many times in the list
pub data Stands (h : History) : List History → ℕ → Type 0 where
  Nowhere : Stands h [] 0
  Here : (hs : List History) (n : ℕ) → Stands h hs n → Stands h (h ∷ hs) (n + 1)
  Elsewhere : (g : History) (hs : List History) (n : ℕ) → g ≢ h → Stands h hs n → Stands h (g ∷ hs) n

-- The row's seed is the least that gave its history, and its count is how many did. The histories are those of the
-- seeds from
-- `first` on.
pub record Tells (hs : List History) (first : ℕ) (r : Row) : Type 0 where
  pub at : ℕ
  pub seed : r.seed ≡ first + at
  pub there : slice_get hs at ≡ Some r.history
  pub least : (k : ℕ) → k < at → slice_get hs k ≡ Some r.history → ⊥
  pub count : Stands r.history hs r.count

-- one of the rows tells of the history
pub record Has (rows : List Row) (h : History) : Type 0 where
  pub at : ℕ
  pub row : Row
  pub there : slice_get rows at ≡ Some row
  pub same : row.history ≡ h

-- Each row tells of a history that a seed gave, each such history has a row, and the rows stand in order of seed: so
-- each
-- distinct history is there once.
pub record IsTally (hs : List History) (first : ℕ) (rows : List Row) : Type 0 where
  pub tells : (j : ℕ) (r : Row) → slice_get rows j ≡ Some r → Tells hs first r
  pub every : (i : ℕ) (h : History) → slice_get hs i ≡ Some h → Has rows h
  pub rising : (j k : ℕ) (r s : Row) → j < k → slice_get rows j ≡ Some r → slice_get rows k ≡ Some s → r.seed < s.seed
