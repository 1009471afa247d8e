-- How a schedule is printed.
use Rattle.std.specs.Prelude.{◌==◌, ◌+◌, ℕ, List, [], ◌∷◌, ◌++◌, if◌then◌else◌, slice_get, unwrap_or, codes}
use Rattle.std.specs.Fmt.{decimal}

-- a thread, and how many steps of it stand in a row
abbrev pub Run : Type 0
Run = ℕ × ℕ

-- one more step of a thread before the runs
abbrev pub with_step : ℕ → List Run → List Run
with_step t [] = (t, 1) ∷ []
with_step t (r ∷ rs) = if t == r.0 then (t, r.1 + 1) ∷ rs else (t, 1) ∷ r ∷ rs

-- neighbouring steps of one thread, together
abbrev pub runs_of : List ℕ → List Run
runs_of [] = []
runs_of (t ∷ ts) = with_step t (runs_of ts)

abbrev pub name_of : List (List ℕ) → ℕ → List ℕ
name_of names t = unwrap_or (slice_get names t) []

-- a star and the count, where it isn't 1
abbrev pub times : ℕ → List ℕ
times n = if n == 1 then [] else 42 ∷ decimal n

abbrev pub item_text : List (List ℕ) → Run → List ℕ
item_text names r = name_of names r.0 ++ times r.1

-- items, with a space before each
abbrev pub more_text : List (List ℕ) → List Run → List ℕ
more_text names [] = []
more_text names (r ∷ rs) = 32 ∷ (item_text names r ++ more_text names rs)

-- `@2`, the items and a line feed
abbrev pub schedule_text : List (List ℕ) → List ℕ → List ℕ
schedule_text names steps = codes "@2" ++ more_text names (runs_of steps) ++ 10 ∷ []
