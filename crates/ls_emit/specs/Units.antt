-- The unit of a method, and how units lie in a whole code.
use Rattle.std.specs.Prelude.{◌≡◌, ◌≤◌, ◌<◌, ℕ, ◌+◌, List, [], ◌∷◌, ◌++◌, length, map, max, Some, slice_get}
use Rattle.ls_code.specs.Code.{Code}
use Rattle.ls_code.specs.Throws.{find_row}
use Rattle.ls_code.specs.declared.instruction.Instruction.{Instruction}
use Rattle.ls_code.specs.declared.instruction.Instruction.TheVariants as op
use Rattle.ls_code.specs.declared.code.HandlerRow.{HandlerRow}
use Rattle.ls_lowered.specs.LoweredTree.{Method, File}
use Rattle.ls_emit.specs.Needs.{statement_need}
use Rattle.ls_emit.specs.Statements.{statement_size, statement_code, statement_rows}

-- a method's code as if it began at place 0, and its handler rows; `arguments` counts `this` too, `more` the further
-- locals, `need` the operands
pub record CodeUnit : Type 0 where
  pub instructions : List Instruction
  pub handlers : List HandlerRow
  pub arguments : ℕ
  pub more : ℕ
  pub need : ℕ

-- a body that ends without a value gives its caller 0
abbrev pub method_size : Method → ℕ
method_size m = statement_size m.body + 2

abbrev pub file_size : File → ℕ
file_size [] = 0
file_size (m ∷ ms) = method_size m + file_size ms

abbrev pub method_code : ℕ → Method → List Instruction
method_code p m = statement_code [] p m.body ++ op.Push 0 ∷ op.LeaveWith ∷ []

abbrev pub method_rows : ℕ → Method → List HandlerRow
method_rows p m = statement_rows p m.body

abbrev pub method_need : Method → ℕ
method_need m = max 1 (statement_need m.body)

abbrev pub unit_of : Method → CodeUnit
unit_of m = record {
  instructions = method_code 0 m;
  handlers = method_rows 0 m;
  arguments = m.arguments;
  more = m.locals;
  need = method_need m;
}

abbrev pub units_of : File → List CodeUnit
units_of methods = map unit_of methods

-- an instruction and a row of a unit that begins at a place
abbrev pub moved : ℕ → Instruction → Instruction
moved start (op.Jump x) = op.Jump (start + x)
moved start (op.JumpIfFalse x) = op.JumpIfFalse (start + x)
moved start (op.JumpIfTrue x) = op.JumpIfTrue (start + x)
moved start (op.Turn x) = op.Turn (start + x)
moved start i = i

abbrev pub moved_row : ℕ → HandlerRow → HandlerRow
moved_row start row = record {
  from = start + row.from;
  to = start + row.to;
  handler = start + row.handler;
  depth = row.depth;
}

-- A unit that begins at a place of the whole code. Its instructions are there. At its places, the rows of the unit are
-- the ones that count.
pub record LiesAt (c : Code) (start : ℕ) (u : CodeUnit) : Type 0 where
  pub stands : (place : ℕ) (i : Instruction) →
      slice_get u.instructions place ≡ Some i →
      slice_get c.instructions (start + place) ≡ Some (moved start i)
  pub guards : (place : ℕ) →
      place < length u.instructions →
      find_row c.handlers (start + place) ≡ find_row (map (moved_row start) u.handlers) (start + place)

-- each unit lies in the first `words` instructions of the whole code, and is the method of its number
pub record LieIn (c : Code) (words : ℕ) (units : List CodeUnit) : Type 0 where
  pub at : (m : ℕ) (u : CodeUnit) → slice_get units m ≡ Some u →
      (start : ℕ) ×
      (slice_get c.methods m ≡ Some (record {
        start = start;
        arguments = u.arguments;
        more = u.more;
        need = u.need;
      }))
      × (start + length u.instructions ≤ words) × LiesAt c start u
