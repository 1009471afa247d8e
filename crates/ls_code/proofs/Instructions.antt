-- A word of an instruction is decoded to it.
use Rattle.std.proofs.Common.{◌≡◌, ℕ, ◌+◌, ◌*◌, ◌/◌, ◌%◌, ◌^◌, ◌<◌, Some, slice_get, refl, arith}
use Rattle.ls_code.specs.Instructions.{table, decoded, opcode_of, operand_of, encoded}
use Rattle.ls_code.specs.declared.instruction.Instruction.{Instruction}
use Rattle.ls_code.specs.declared.instruction.Instruction.TheVariants as op

stands_at : (i : Instruction) → slice_get (table (operand_of i)) (opcode_of i) ≡ Some i
unfolding table
stands_at op.Halt = refl
stands_at (op.Push x) = refl
stands_at (op.Load x) = refl
stands_at (op.Store x) = refl
stands_at op.Pop = refl
stands_at op.Dup = refl
stands_at op.Add = refl
stands_at op.Sub = refl
stands_at op.Mul = refl
stands_at op.Div = refl
stands_at op.Remainder = refl
stands_at op.Neg = refl
stands_at op.Lt = refl
stands_at op.Le = refl
stands_at op.Gt = refl
stands_at op.Ge = refl
stands_at op.Eq = refl
stands_at op.Ne = refl
stands_at op.Not = refl
stands_at (op.Jump x) = refl
stands_at (op.JumpIfFalse x) = refl
stands_at (op.JumpIfTrue x) = refl
stands_at (op.Turn x) = refl
stands_at (op.GetField x) = refl
stands_at (op.PutField x) = refl
stands_at op.GetItem = refl
stands_at op.PutItem = refl
stands_at (op.GetName x) = refl
stands_at (op.PutName x) = refl
stands_at (op.NewObject x) = refl
stands_at op.NewLock = refl
stands_at op.NewMarkable = refl
stands_at op.NewArray = refl
stands_at op.Lock = refl
stands_at op.Unlock = refl
stands_at op.TryLock = refl
stands_at op.IsHeld = refl
stands_at (op.See x) = refl
stands_at (op.Take x) = refl
stands_at (op.DropLock x) = refl
stands_at op.ReadPair = refl
stands_at op.ReferenceOf = refl
stands_at op.MarkOf = refl
stands_at op.Pack = refl
stands_at op.SetPair = refl
stands_at op.SwapPair = refl
stands_at op.AttemptMark = refl
stands_at (op.Enter x) = refl
stands_at op.Leave = refl
stands_at op.LeaveWith = refl
stands_at op.Throw = refl
stands_at (op.Call x) = refl
stands_at (op.Result x) = refl
stands_at op.Trap = refl

opcode_small : (i : Instruction) → opcode_of i < 2 ^ 8
opcode_small op.Halt = omega arith
opcode_small (op.Push x) = omega arith
opcode_small (op.Load x) = omega arith
opcode_small (op.Store x) = omega arith
opcode_small op.Pop = omega arith
opcode_small op.Dup = omega arith
opcode_small op.Add = omega arith
opcode_small op.Sub = omega arith
opcode_small op.Mul = omega arith
opcode_small op.Div = omega arith
opcode_small op.Remainder = omega arith
opcode_small op.Neg = omega arith
opcode_small op.Lt = omega arith
opcode_small op.Le = omega arith
opcode_small op.Gt = omega arith
opcode_small op.Ge = omega arith
opcode_small op.Eq = omega arith
opcode_small op.Ne = omega arith
opcode_small op.Not = omega arith
opcode_small (op.Jump x) = omega arith
opcode_small (op.JumpIfFalse x) = omega arith
opcode_small (op.JumpIfTrue x) = omega arith
opcode_small (op.Turn x) = omega arith
opcode_small (op.GetField x) = omega arith
opcode_small (op.PutField x) = omega arith
opcode_small op.GetItem = omega arith
opcode_small op.PutItem = omega arith
opcode_small (op.GetName x) = omega arith
opcode_small (op.PutName x) = omega arith
opcode_small (op.NewObject x) = omega arith
opcode_small op.NewLock = omega arith
opcode_small op.NewMarkable = omega arith
opcode_small op.NewArray = omega arith
opcode_small op.Lock = omega arith
opcode_small op.Unlock = omega arith
opcode_small op.TryLock = omega arith
opcode_small op.IsHeld = omega arith
opcode_small (op.See x) = omega arith
opcode_small (op.Take x) = omega arith
opcode_small (op.DropLock x) = omega arith
opcode_small op.ReadPair = omega arith
opcode_small op.ReferenceOf = omega arith
opcode_small op.MarkOf = omega arith
opcode_small op.Pack = omega arith
opcode_small op.SetPair = omega arith
opcode_small op.SwapPair = omega arith
opcode_small op.AttemptMark = omega arith
opcode_small (op.Enter x) = omega arith
opcode_small op.Leave = omega arith
opcode_small op.LeaveWith = omega arith
opcode_small op.Throw = omega arith
opcode_small (op.Call x) = omega arith
opcode_small (op.Result x) = omega arith
opcode_small op.Trap = omega arith

no_rest : (n x : ℕ) → n < 2 ^ 8 → x < 2 ^ 32 → (n + 2 ^ 8 * x) / 2 ^ 40 ≡ 0
no_rest n x h k = omega arith

the_operand : (n x : ℕ) → n < 2 ^ 8 → x < 2 ^ 32 → (n + 2 ^ 8 * x) / 2 ^ 8 % 2 ^ 32 ≡ x
the_operand n x h k = omega arith

the_opcode : (n x : ℕ) → n < 2 ^ 8 → x < 2 ^ 32 → (n + 2 ^ 8 * x) % 2 ^ 8 ≡ n
the_opcode n x h k = omega arith

-- an instruction that is encoded is decoded again
pub decoded-encoded : (i : Instruction) → operand_of i < 2 ^ 32 → decoded (encoded i) ≡ Some i
decoded-encoded i small =
    let a = no_rest (opcode_of i) (operand_of i) (opcode_small i) small in
    let b = the_operand (opcode_of i) (operand_of i) (opcode_small i) small in
    let d = the_opcode (opcode_of i) (operand_of i) (opcode_small i) small in
    rw (a, b, d) (stands_at i)
