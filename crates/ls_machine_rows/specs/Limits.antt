-- The limits of the machine.
use Rattle.std.specs.Prelude.{◌≡◌}
use Rattle.ls_code.specs.Limits.{most_cells}

-- 4 Mi cells
abbrev pub MostCells : Type 0
MostCells = most_cells ≡ 4194304
