-- The limits that schedules keep.
use Rattle.std.specs.Prelude.{ℕ}

-- the most steps of a schedule
abbrev pub most_steps : ℕ
most_steps = 1000000
