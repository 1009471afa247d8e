-- The code words.
use Rattle.std.specs.Prelude.{ℕ, ◌+◌, ◌*◌, ◌/◌, ◌%◌, ◌^◌, List, [], ◌∷◌, Option, None, ◌==◌, if◌then◌else◌, slice_get}
use Rattle.ls_code.specs.declared.instruction.Instruction.{Instruction}
use Rattle.ls_code.specs.declared.instruction.Instruction.TheVariants as op

-- the instructions with operand x, by their opcodes from 0 on; `unfoldable`, so that goals keep its name
unfoldable pub table : ℕ → List Instruction
table x =
    op.Halt ∷ op.Push x ∷ op.Load x ∷ op.Store x ∷ op.Pop ∷ op.Dup
    ∷ op.Add ∷ op.Sub ∷ op.Mul ∷ op.Div ∷ op.Remainder ∷ op.Neg
    ∷ op.Lt ∷ op.Le ∷ op.Gt ∷ op.Ge ∷ op.Eq ∷ op.Ne ∷ op.Not
    ∷ op.Jump x ∷ op.JumpIfFalse x ∷ op.JumpIfTrue x ∷ op.Turn x
    ∷ op.GetField x ∷ op.PutField x ∷ op.GetItem ∷ op.PutItem ∷ op.GetName x ∷ op.PutName x
    ∷ op.NewObject x ∷ op.NewLock ∷ op.NewMarkable ∷ op.NewArray
    ∷ op.Lock ∷ op.Unlock ∷ op.TryLock ∷ op.IsHeld ∷ op.See x ∷ op.Take x ∷ op.DropLock x
    ∷ op.ReadPair ∷ op.ReferenceOf ∷ op.MarkOf ∷ op.Pack ∷ op.SetPair ∷ op.SwapPair ∷ op.AttemptMark
    ∷ op.Enter x ∷ op.Leave ∷ op.LeaveWith ∷ op.Throw ∷ op.Call x ∷ op.Result x ∷ op.Trap ∷ []

-- the opcode in bits 0 to 7, the operand in bits 8 to 39, the rest 0
abbrev pub decoded : ℕ → Option Instruction
decoded word = if word / 2 ^ 40 == 0 then slice_get (table (word / 2 ^ 8 % 2 ^ 32)) (word % 2 ^ 8) else None

-- the opcode and the operand of an instruction; the operand is 0 if it has none
abbrev pub opcode_of : Instruction → ℕ
opcode_of op.Halt = 0
opcode_of (op.Push x) = 1
opcode_of (op.Load x) = 2
opcode_of (op.Store x) = 3
opcode_of op.Pop = 4
opcode_of op.Dup = 5
opcode_of op.Add = 6
opcode_of op.Sub = 7
opcode_of op.Mul = 8
opcode_of op.Div = 9
opcode_of op.Remainder = 10
opcode_of op.Neg = 11
opcode_of op.Lt = 12
opcode_of op.Le = 13
opcode_of op.Gt = 14
opcode_of op.Ge = 15
opcode_of op.Eq = 16
opcode_of op.Ne = 17
opcode_of op.Not = 18
opcode_of (op.Jump x) = 19
opcode_of (op.JumpIfFalse x) = 20
opcode_of (op.JumpIfTrue x) = 21
opcode_of (op.Turn x) = 22
opcode_of (op.GetField x) = 23
opcode_of (op.PutField x) = 24
opcode_of op.GetItem = 25
opcode_of op.PutItem = 26
opcode_of (op.GetName x) = 27
opcode_of (op.PutName x) = 28
opcode_of (op.NewObject x) = 29
opcode_of op.NewLock = 30
opcode_of op.NewMarkable = 31
opcode_of op.NewArray = 32
opcode_of op.Lock = 33
opcode_of op.Unlock = 34
opcode_of op.TryLock = 35
opcode_of op.IsHeld = 36
opcode_of (op.See x) = 37
opcode_of (op.Take x) = 38
opcode_of (op.DropLock x) = 39
opcode_of op.ReadPair = 40
opcode_of op.ReferenceOf = 41
opcode_of op.MarkOf = 42
opcode_of op.Pack = 43
opcode_of op.SetPair = 44
opcode_of op.SwapPair = 45
opcode_of op.AttemptMark = 46
opcode_of (op.Enter x) = 47
opcode_of op.Leave = 48
opcode_of op.LeaveWith = 49
opcode_of op.Throw = 50
opcode_of (op.Call x) = 51
opcode_of (op.Result x) = 52
opcode_of op.Trap = 53

abbrev pub operand_of : Instruction → ℕ
operand_of op.Halt = 0
operand_of (op.Push x) = x
operand_of (op.Load x) = x
operand_of (op.Store x) = x
operand_of op.Pop = 0
operand_of op.Dup = 0
operand_of op.Add = 0
operand_of op.Sub = 0
operand_of op.Mul = 0
operand_of op.Div = 0
operand_of op.Remainder = 0
operand_of op.Neg = 0
operand_of op.Lt = 0
operand_of op.Le = 0
operand_of op.Gt = 0
operand_of op.Ge = 0
operand_of op.Eq = 0
operand_of op.Ne = 0
operand_of op.Not = 0
operand_of (op.Jump x) = x
operand_of (op.JumpIfFalse x) = x
operand_of (op.JumpIfTrue x) = x
operand_of (op.Turn x) = x
operand_of (op.GetField x) = x
operand_of (op.PutField x) = x
operand_of op.GetItem = 0
operand_of op.PutItem = 0
operand_of (op.GetName x) = x
operand_of (op.PutName x) = x
operand_of (op.NewObject x) = x
operand_of op.NewLock = 0
operand_of op.NewMarkable = 0
operand_of op.NewArray = 0
operand_of op.Lock = 0
operand_of op.Unlock = 0
operand_of op.TryLock = 0
operand_of op.IsHeld = 0
operand_of (op.See x) = x
operand_of (op.Take x) = x
operand_of (op.DropLock x) = x
operand_of op.ReadPair = 0
operand_of op.ReferenceOf = 0
operand_of op.MarkOf = 0
operand_of op.Pack = 0
operand_of op.SetPair = 0
operand_of op.SwapPair = 0
operand_of op.AttemptMark = 0
operand_of (op.Enter x) = x
operand_of op.Leave = 0
operand_of op.LeaveWith = 0
operand_of op.Throw = 0
operand_of (op.Call x) = x
operand_of (op.Result x) = x
operand_of op.Trap = 0

-- the word of an instruction
abbrev pub encoded : Instruction → ℕ
encoded i = opcode_of i + 2 ^ 8 * operand_of i
