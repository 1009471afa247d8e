-- What the machine runs.
use Rattle.std.specs.Prelude.{ℕ, ◌^◌, ◌≤◌, List, length}
use Rattle.std.specs.List.{All}
use Rattle.ls_code.specs.declared.instruction.Instruction.{Instruction}
use Rattle.ls_code.specs.declared.code.HandlerRow.{HandlerRow}
use Rattle.ls_code.specs.declared.code.Method.{Method}
use Rattle.ls_code.specs.declared.code.CallResult.{CallResult}

-- where a thread starts, how many operands it may have, and what each of its calls answers
pub record Start : Type 0 where
  pub place : ℕ
  pub need : ℕ
  pub calls : List CallResult

-- The instructions of all units. The handler rows; if two rows hold one place, the first row is the innermost. The
-- methods, the cells of an object of each class, the threads (the setup first), and the number of setup names.
pub record Code : Type 0 where
  pub instructions : List Instruction
  pub handlers : List HandlerRow
  pub methods : List Method
  pub sizes : List ℕ
  pub starts : List Start
  pub names : ℕ

-- its numbers are small enough for a machine
pub record IsSmall (c : Code) : Type 0 where
  pub threads : length c.starts ≤ 65
  pub calls : All (λ s. length s.calls ≤ 2 ^ 20) c.starts
  pub locals : All (λ m. (m.arguments ≤ 2 ^ 20) × (m.more ≤ 2 ^ 20)) c.methods
