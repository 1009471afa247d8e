-- The limits of the machine.
use Rattle.std.specs.Prelude.{ℕ}

-- the most cells of a machine
abbrev pub most_cells : ℕ
most_cells = 4194304

-- the most instructions of a unit, and of the whole code
abbrev pub most_instructions : ℕ
most_instructions = 65536
