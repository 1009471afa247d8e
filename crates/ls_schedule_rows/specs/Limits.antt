-- Counts of seven and more digits, and the most steps that a schedule has.
use Rattle.ls_events.specs.Limits.{most_steps}
use Rattle.std.specs.Prelude.{◌≡◌, ◌<◌, ◌*◌, ℕ, List, [], ◌∷◌, length, codes, replicate, Some, Ok, Err}
use Rattle.ls_schedule.specs.declared.fault.ScheduleFault.TheVariants.{BadItem, UnknownThread, TooManySteps}
use Rattle.ls_schedule.specs.Pieces.{Piece}
use Rattle.ls_schedule.specs.Reading.{group_schedule, nothing, repeated, steps_in, times_of, turns_of, within}
use Rattle.ls_schedule_rows.specs.Said.{names, IsRefused}

-- a count has as many digits as are written
abbrev pub LongCounts : Type 0
LongCounts =
    (turns_of names (0, codes "A*999999") ≡ Ok (1 ∷ [], 999999))
    × (turns_of names (0, codes "A*1000000") ≡ Ok (1 ∷ [], 1000000))
    × (turns_of names (0, codes "A*7654321") ≡ Ok (1 ∷ [], 7654321))
    × (turns_of names (0, codes "A*98765432109876543210") ≡ Ok (1 ∷ [], 98765432109876543210))

-- 1,000,000 steps are a schedule
abbrev pub MostSteps : Type 0
MostSteps = (t : ℕ) → within (replicate most_steps t) ≡ Ok (replicate most_steps t)

abbrev pub OneStepTooMany : Type 0
OneStepTooMany = (t : ℕ) → within (replicate 1000001 t) ≡ Err TooManySteps

-- the count of a group has as many digits as are written
abbrev pub LongGroupCounts : Type 0
LongGroupCounts = (times_of (codes "*7654321") ≡ Some 7654321) ×
    (times_of (codes "*98765432109876543210") ≡ Some 98765432109876543210)

-- counts of groups in one another multiply, however large the product is
abbrev pub CountsInOneAnother : Type 0
CountsInOneAnother = (m n : ℕ) (steps : List ℕ) → most_steps < m * (n * length steps) →
    within (repeated m (repeated n steps)) ≡ Err TooManySteps

-- the groups have at most 1,000,000 steps together
abbrev pub GroupsPastTheLimit : Type 0
GroupsPastTheLimit =
    (ps : List Piece) (steps : List ℕ) → steps_in names [] nothing ps ≡ Ok steps → most_steps < length steps →
    group_schedule names ps ≡ Err TooManySteps

-- an item with a fault is reported before the length is
abbrev pub FaultsBeforeTheLength : Type 0
FaultsBeforeTheLength =
    IsRefused (codes "A*2000000 A*0") (BadItem 10)
    × IsRefused (codes "A*2000000 C") (UnknownThread 10)
    × IsRefused (codes "@2 (A*1000001 C)*0") (BadItem 3)
