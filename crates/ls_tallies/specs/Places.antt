-- Where the row of each history is.
use Rattle.std.specs.Prelude.{◌≡◌, ℕ, suc, List, [], ◌∷◌, Option, Some, None, map, option_map, if◌then◌else◌}
use Rattle.std.specs.BTreeMap.{BTreeMap, get_by}
use Rattle.std.specs.Cmp.Lexicographic.{slice_cmp}
use Rattle.std.specs.Ordering.{nat_cmp}
use denote.Ref.{Bor}
use Rattle.ls_report.specs.Events.{Text}
use Rattle.ls_tallies.specs.Tallies.{is_of, Row}
use Rattle.ls_tallies.specs.Plain.{plain_row}
use Rattle.ls_tallies.specs.declared.gathering.Gathering.{Gathering}

-- the place that is kept under the history
abbrev pub kept_place : BTreeMap (Bor (List ℕ)) ℕ → Text → Option ℕ
kept_place places history = get_by (λ key. slice_cmp nat_cmp history key.now) places

-- the first row of the history
abbrev pub place_in : List Row → Text → Option ℕ
place_in [] history = None
place_in (r ∷ rows) history = if is_of history r then Some 0 else option_map suc (place_in rows history)

-- the rows so far
abbrev pub rows_of : Gathering → List Row
rows_of g = map plain_row g.rows.items

-- under each history its row's place is kept, and under no other text one
abbrev pub IsIndexed : Gathering → Type 0
IsIndexed g = (history : Text) → kept_place g.places history ≡ place_in (rows_of g) history
