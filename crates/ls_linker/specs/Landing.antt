-- Units whose jumps and rows name no place beyond the greatest length of a unit.
use Rattle.ls_code.specs.Limits.{most_instructions}
use Rattle.std.specs.Prelude.{ℕ, ◌≤◌, length}
use Rattle.std.specs.List.{All}
use Rattle.ls_code.specs.declared.instruction.Instruction.{Instruction}
use Rattle.ls_code.specs.declared.instruction.Instruction.TheVariants as op
use Rattle.ls_code.specs.declared.code.HandlerRow.{HandlerRow}
use Rattle.ls_emit.specs.Units.{CodeUnit}

-- if the instruction is a jump, it leads to a place up to n
abbrev pub Lands : ℕ → Instruction → Type 0
Lands n (op.Jump place) = place ≤ n
Lands n (op.JumpIfFalse place) = place ≤ n
Lands n (op.JumpIfTrue place) = place ≤ n
Lands n (op.Turn place) = place ≤ n
Lands n _ = Unit {0}

pub record RowLands (n : ℕ) (row : HandlerRow) : Type 0 where
  pub from : row.from ≤ n
  pub to : row.to ≤ n
  pub handler : row.handler ≤ n

-- at most 65,536 instructions, arguments and further locals, and places within them
pub record UnitLands (u : CodeUnit) : Type 0 where
  pub short : length u.instructions ≤ most_instructions
  pub jumps : All (Lands most_instructions) u.instructions
  pub rows : All (RowLands most_instructions) u.handlers
  pub arguments : u.arguments ≤ most_instructions
  pub more : u.more ≤ most_instructions
