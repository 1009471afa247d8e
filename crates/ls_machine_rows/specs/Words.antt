-- The code words of all instructions: the number of each opcode, and the word with the least and with the greatest
-- operand.
use Rattle.std.specs.Prelude.{◌≡◌, ℕ, Some, None}
use Rattle.ls_code.specs.Instructions.{decoded, encoded}
use Rattle.ls_code.specs.declared.instruction.Instruction.{Instruction}
use Rattle.ls_code.specs.declared.instruction.Instruction.TheVariants as op

-- an instruction has this word, and the word is read as this instruction
abbrev pub HasWord : Instruction → ℕ → Type 0
HasWord i word = (encoded i ≡ word) × (decoded word ≡ Some i)

-- without an operand the word is the opcode
abbrev pub WithoutOperand : Type 0
WithoutOperand =
    HasWord op.Halt 0
    × HasWord op.Pop 4
    × HasWord op.Dup 5
    × HasWord op.Add 6
    × HasWord op.Sub 7
    × HasWord op.Mul 8
    × HasWord op.Div 9
    × HasWord op.Remainder 10
    × HasWord op.Neg 11
    × HasWord op.Lt 12
    × HasWord op.Le 13
    × HasWord op.Gt 14
    × HasWord op.Ge 15
    × HasWord op.Eq 16
    × HasWord op.Ne 17
    × HasWord op.Not 18
    × HasWord op.GetItem 25
    × HasWord op.PutItem 26
    × HasWord op.NewLock 30
    × HasWord op.NewMarkable 31
    × HasWord op.NewArray 32
    × HasWord op.Lock 33
    × HasWord op.Unlock 34
    × HasWord op.TryLock 35
    × HasWord op.IsHeld 36
    × HasWord op.ReadPair 40
    × HasWord op.ReferenceOf 41
    × HasWord op.MarkOf 42
    × HasWord op.Pack 43
    × HasWord op.SetPair 44
    × HasWord op.SwapPair 45
    × HasWord op.AttemptMark 46
    × HasWord op.Leave 48
    × HasWord op.LeaveWith 49
    × HasWord op.Throw 50
    × HasWord op.Trap 53

-- operand 0: the word is the opcode
abbrev pub LeastOperands : Type 0
LeastOperands =
    HasWord (op.Push 0) 1
    × HasWord (op.Load 0) 2
    × HasWord (op.Store 0) 3
    × HasWord (op.Jump 0) 19
    × HasWord (op.JumpIfFalse 0) 20
    × HasWord (op.JumpIfTrue 0) 21
    × HasWord (op.Turn 0) 22
    × HasWord (op.GetField 0) 23
    × HasWord (op.PutField 0) 24
    × HasWord (op.GetName 0) 27
    × HasWord (op.PutName 0) 28
    × HasWord (op.NewObject 0) 29
    × HasWord (op.See 0) 37
    × HasWord (op.Take 0) 38
    × HasWord (op.DropLock 0) 39
    × HasWord (op.Enter 0) 47
    × HasWord (op.Call 0) 51
    × HasWord (op.Result 0) 52

-- operand 2^32 - 1 is in bits 8 to 39
abbrev pub GreatestOperands : Type 0
GreatestOperands =
    HasWord (op.Push 4294967295) 1099511627521
    × HasWord (op.Load 4294967295) 1099511627522
    × HasWord (op.Store 4294967295) 1099511627523
    × HasWord (op.Jump 4294967295) 1099511627539
    × HasWord (op.JumpIfFalse 4294967295) 1099511627540
    × HasWord (op.JumpIfTrue 4294967295) 1099511627541
    × HasWord (op.Turn 4294967295) 1099511627542
    × HasWord (op.GetField 4294967295) 1099511627543
    × HasWord (op.PutField 4294967295) 1099511627544
    × HasWord (op.GetName 4294967295) 1099511627547
    × HasWord (op.PutName 4294967295) 1099511627548
    × HasWord (op.NewObject 4294967295) 1099511627549
    × HasWord (op.See 4294967295) 1099511627557
    × HasWord (op.Take 4294967295) 1099511627558
    × HasWord (op.DropLock 4294967295) 1099511627559
    × HasWord (op.Enter 4294967295) 1099511627567
    × HasWord (op.Call 4294967295) 1099511627571
    × HasWord (op.Result 4294967295) 1099511627572

-- an operand in between
abbrev pub OtherOperands : Type 0
OtherOperands = HasWord (op.Push 1) 257 × HasWord (op.Enter 258) 66095 × HasWord (op.Jump 65536) 16777235

-- the first opcode of no instruction, the last opcode, and words with a bit past the operand
abbrev pub NoInstruction : Type 0
NoInstruction =
    (decoded 54 ≡ None)
    × (decoded 255 ≡ None)
    × (decoded 1099511627574 ≡ None)
    × (decoded 1099511627776 ≡ None)
    × (decoded 18446744073709551615 ≡ None)
