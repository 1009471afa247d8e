-- One frame of a thread.
use Rattle.std.specs.Prelude.{ℕ, ◌+◌, List, [], ◌∷◌, Option, Some, None}

-- its place in the code, its locals, its operands with the top first, and how many operands it may have
pub record Frame : Type 0 where
  pub counter : ℕ
  pub locals : List ℕ
  pub operands : List ℕ
  pub need : ℕ

-- at the next instruction, with these operands
abbrev pub onward : Frame → List ℕ → Frame
onward f operands = record f { counter = f.counter + 1; operands = operands }

-- at another place, with these operands
abbrev pub led_to : Frame → ℕ → List ℕ → Frame
led_to f place operands = record f { counter = place; operands = operands }

-- the top operand; the two topmost operands, with the top last; the three topmost operands
abbrev pub top_one : List ℕ → Option ℕ
top_one [] = None
top_one (a ∷ rest) = Some a

abbrev pub top_two : List ℕ → Option (ℕ × ℕ)
top_two [] = None
top_two (b ∷ []) = None
top_two (b ∷ a ∷ rest) = Some (a, b)

abbrev pub top_three : List ℕ → Option (ℕ × ℕ × ℕ)
top_three [] = None
top_three (c ∷ []) = None
top_three (c ∷ b ∷ []) = None
top_three (c ∷ b ∷ a ∷ rest) = Some (a, b, c)
