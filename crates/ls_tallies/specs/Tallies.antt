-- Tallies by the texts of their histories, and their merge.
use Rattle.std.specs.Prelude.{◌+◌, ℕ, Bool, List, [], ◌∷◌, min, if◌then◌else◌, IsPermutation, IsSorted}
use Rattle.std.specs.declared.cmp.Ordering.{Ordering}
use Rattle.std.specs.Cmp.Lexicographic.{slice_cmp}
use Rattle.std.specs.Ordering.{nat_cmp, ordering_then}
use Rattle.std.specs.Str.{bytes_eq}
use Rattle.ls_report.specs.Events.{Text}

-- a history's text, how many seeds gave it, and the least of them
pub record Row : Type 0 where
  pub history : Text
  pub count : ℕ
  pub seed : ℕ

abbrev pub row : Text → ℕ → ℕ → Row
row h n s = record { history = h; count = n; seed = s }

abbrev pub is_of : Text → Row → Bool
is_of h r = bytes_eq r.history h

-- ---- the merge of rows: each distinct history once

-- two rows of one history: the counts are added, and the lesser seed is kept
abbrev pub joined : Row → Row → Row
joined r s = row r.history (r.count + s.count) (min r.seed s.seed)

-- a row is added to the one with its history, or put at the end
abbrev pub added : List Row → Row → List Row
added [] r = r ∷ []
added (s ∷ rows) r = if is_of r.history s then joined s r ∷ rows else s ∷ added rows r

-- one row after the other is added
abbrev pub gathered_onto : List Row → List Row → List Row
gathered_onto rows [] = rows
gathered_onto rows (r ∷ more) = gathered_onto (added rows r) more

abbrev pub gathered : List Row → List Row
gathered = gathered_onto []

-- by seed; rows of one seed by the bytes of their histories
abbrev pub row_cmp : Row → Row → Ordering
row_cmp r s = ordering_then (nat_cmp r.seed s.seed) (ordering_then (slice_cmp nat_cmp r.history s.history)
    (nat_cmp r.count s.count))

-- the gathered rows, in order of seed
pub record IsMerge (rows merge : List Row) : Type 0 where
  pub gathers : IsPermutation (gathered rows) merge
  pub order : IsSorted row_cmp merge

-- ---- how many seeds there are in all

abbrev pub total_of : List Row → ℕ
total_of [] = 0
total_of (r ∷ rows) = r.count + total_of rows
