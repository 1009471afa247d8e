-- The table of instructions, a step of one thread for each case: what the other threads never notice.
use Rattle.std.specs.Prelude.{◌≡◌, [], ◌∷◌}
use Rattle.ls_machine_rows.specs.Stages.{Goes, Throws, machine, machine_of, memory}
use Rattle.ls_code.specs.Machine.{machine_step}
use Rattle.ls_code.specs.declared.step.Did.TheVariants as did
use Rattle.ls_code.specs.declared.instruction.Instruction.TheVariants as op

-- words on the operands
abbrev pub Words : Type 0
Words =
    (Goes (op.Push 7) (5 ∷ []) 1 (7 ∷ 5 ∷ []))
    × (Goes (op.Load 1) (5 ∷ []) 1 (20 ∷ 5 ∷ []))
    × (Goes op.Pop (7 ∷ 5 ∷ []) 1 (5 ∷ []))
    × (Goes op.Dup (7 ∷ 5 ∷ []) 1 (7 ∷ 7 ∷ 5 ∷ []))

-- a local, written
abbrev pub Locals : Type 0
Locals =
    machine_step (machine (op.Store 0) 0 (9 ∷ 5 ∷ []) memory) 1
    ≡ record { machine = machine_of (9 ∷ 20 ∷ []) (op.Store 0) 1 (5 ∷ []) memory; did = did.Silent }

-- a b, wrapped
abbrev pub Arithmetic : Type 0
Arithmetic =
    (Goes op.Add (3 ∷ 4 ∷ []) 1 (7 ∷ []))
    × (Goes op.Add (1 ∷ 2147483647 ∷ []) 1 (2147483648 ∷ []))
    × (Goes op.Sub (3 ∷ 10 ∷ []) 1 (7 ∷ []))
    × (Goes op.Sub (10 ∷ 3 ∷ []) 1 (4294967289 ∷ []))
    × (Goes op.Mul (3 ∷ 4294967295 ∷ []) 1 (4294967293 ∷ []))
    × (Goes op.Mul (65536 ∷ 65536 ∷ []) 1 (0 ∷ []))
    × (Goes op.Mul (0 ∷ 7 ∷ []) 1 (0 ∷ []))
    × (Goes op.Neg (1 ∷ []) 1 (4294967295 ∷ []))
    × (Goes op.Neg (2147483648 ∷ []) 1 (2147483648 ∷ []))

-- rounded toward zero; by 0 they throw ArithmeticException
abbrev pub Divisions : Type 0
Divisions =
    (Goes op.Div (2 ∷ 7 ∷ []) 1 (3 ∷ []))
    × (Goes op.Div (2 ∷ 4294967289 ∷ []) 1 (4294967293 ∷ []))
    × (Goes op.Remainder (2 ∷ 7 ∷ []) 1 (1 ∷ []))
    × (Goes op.Remainder (2 ∷ 4294967289 ∷ []) 1 (4294967295 ∷ []))
    × (Goes op.Remainder (4294967294 ∷ 7 ∷ []) 1 (1 ∷ []))
    × (Throws op.Div (0 ∷ 7 ∷ []) 1)
    × (Throws op.Remainder (0 ∷ 7 ∷ []) 1)

-- a b, signed
abbrev pub Comparisons : Type 0
Comparisons =
    (Goes op.Lt (2 ∷ 1 ∷ []) 1 (1 ∷ []))
    × (Goes op.Lt (1 ∷ 1 ∷ []) 1 (0 ∷ []))
    × (Goes op.Lt (0 ∷ 4294967295 ∷ []) 1 (1 ∷ []))
    × (Goes op.Lt (4294967295 ∷ 0 ∷ []) 1 (0 ∷ []))
    × (Goes op.Le (1 ∷ 1 ∷ []) 1 (1 ∷ []))
    × (Goes op.Le (1 ∷ 2 ∷ []) 1 (0 ∷ []))
    × (Goes op.Le (0 ∷ 4294967295 ∷ []) 1 (1 ∷ []))
    × (Goes op.Gt (1 ∷ 2 ∷ []) 1 (1 ∷ []))
    × (Goes op.Gt (1 ∷ 1 ∷ []) 1 (0 ∷ []))
    × (Goes op.Gt (4294967295 ∷ 0 ∷ []) 1 (1 ∷ []))
    × (Goes op.Ge (1 ∷ 1 ∷ []) 1 (1 ∷ []))
    × (Goes op.Ge (2 ∷ 1 ∷ []) 1 (0 ∷ []))
    × (Goes op.Ge (4294967295 ∷ 0 ∷ []) 1 (1 ∷ []))

-- whole words
abbrev pub Equality : Type 0
Equality =
    (Goes op.Eq (5 ∷ 5 ∷ []) 1 (1 ∷ []))
    × (Goes op.Eq (4 ∷ 5 ∷ []) 1 (0 ∷ []))
    × (Goes op.Eq (4294967301 ∷ 5 ∷ []) 1 (0 ∷ []))
    × (Goes op.Ne (5 ∷ 5 ∷ []) 1 (0 ∷ []))
    × (Goes op.Ne (4 ∷ 5 ∷ []) 1 (1 ∷ []))
    × (Goes op.Not (0 ∷ []) 1 (1 ∷ []))
    × (Goes op.Not (1 ∷ []) 1 (0 ∷ []))

-- jumps
abbrev pub Jumps : Type 0
Jumps =
    (Goes (op.Jump 9) (7 ∷ []) 9 (7 ∷ []))
    × (Goes (op.JumpIfFalse 9) (0 ∷ 7 ∷ []) 9 (7 ∷ []))
    × (Goes (op.JumpIfFalse 9) (1 ∷ 7 ∷ []) 1 (7 ∷ []))
    × (Goes (op.JumpIfTrue 9) (1 ∷ 7 ∷ []) 9 (7 ∷ []))
    × (Goes (op.JumpIfTrue 9) (0 ∷ 7 ∷ []) 1 (7 ∷ []))

-- a markable's word is twice the address plus the mark
abbrev pub Pairs : Type 0
Pairs =
    (Goes op.ReferenceOf (11 ∷ []) 1 (5 ∷ []))
    × (Goes op.ReferenceOf (10 ∷ []) 1 (5 ∷ []))
    × (Goes op.MarkOf (11 ∷ []) 1 (1 ∷ []))
    × (Goes op.MarkOf (10 ∷ []) 1 (0 ∷ []))
    × (Goes op.Pack (1 ∷ 5 ∷ []) 1 (11 ∷ []))
    × (Goes op.Pack (0 ∷ 5 ∷ []) 1 (10 ∷ []))

-- at address 0 they throw NullPointerException in silence
abbrev pub Nulls : Type 0
Nulls =
    (Throws (op.GetField 1) (0 ∷ []) 2)
    × (Throws (op.PutField 1) (9 ∷ 0 ∷ []) 2)
    × (Throws op.GetItem (0 ∷ 0 ∷ []) 2)
    × (Throws op.PutItem (1 ∷ 0 ∷ 0 ∷ []) 2)
    × (Throws op.Lock (0 ∷ []) 2)
    × (Throws op.Unlock (0 ∷ []) 2)
    × (Throws op.TryLock (0 ∷ []) 2)
    × (Throws op.IsHeld (0 ∷ []) 2)
    × (Throws op.ReadPair (0 ∷ []) 2)
    × (Throws op.SetPair (4 ∷ 0 ∷ []) 2)
    × (Throws op.SwapPair (4 ∷ 11 ∷ 0 ∷ []) 2)
    × (Throws op.AttemptMark (1 ∷ 5 ∷ 0 ∷ []) 2)
    × (Throws op.NewArray (4294967295 ∷ []) 4)
