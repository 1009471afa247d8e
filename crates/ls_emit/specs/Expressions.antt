-- The code of an expression, which leaves its word on top of the operands. Jumps name places in the whole code. So the
-- code depends on the place where it begins.
use Rattle.std.specs.Prelude.{ℕ, ◌+◌, List, [], ◌∷◌, ◌++◌}
use Rattle.ls_code.specs.declared.instruction.Instruction.{Instruction}
use Rattle.ls_code.specs.declared.instruction.Instruction.TheVariants as op
use Rattle.ls_lowered.specs.declared.tree.UnaryOperator.{UnaryOperator}
use Rattle.ls_lowered.specs.declared.tree.UnaryOperator.TheVariants.{Negate, Not, ReferenceOf, MarkOf}
use Rattle.ls_lowered.specs.declared.tree.BinaryOperator.{BinaryOperator}
use Rattle.ls_lowered.specs.declared.tree.BinaryOperator.TheVariants as binary
use Rattle.ls_lowered.specs.LoweredTree.{Expression, Word, Local, Unary, Binary, And, Or, Hold, Keep, After, Field}
use Rattle.ls_lowered.specs.LoweredTree.{Item, SetFirst, ReadPair, SetPair, SwapPair, AttemptMark, OnLock, Call}
use Rattle.ls_lowered.specs.LoweredTree.{MakeObject, MakeLock, MakeMarkable, MakeArray, Expressions, End, More}
use Rattle.ls_emit.specs.LockCode.{lock_code, lock_size}

abbrev pub unary_code : UnaryOperator → Instruction
unary_code Negate = op.Neg
unary_code Not = op.Not
unary_code ReferenceOf = op.ReferenceOf
unary_code MarkOf = op.MarkOf

abbrev pub binary_code : BinaryOperator → Instruction
binary_code binary.Add = op.Add
binary_code binary.Subtract = op.Sub
binary_code binary.Multiply = op.Mul
binary_code binary.Divide = op.Div
binary_code binary.Remainder = op.Remainder
binary_code binary.Less = op.Lt
binary_code binary.LessEqual = op.Le
binary_code binary.Greater = op.Gt
binary_code binary.GreaterEqual = op.Ge
binary_code binary.Equal = op.Eq
binary_code binary.NotEqual = op.Ne
binary_code binary.Pack = op.Pack

-- how many instructions an expression has
abbrev mutual
  pub size : Expression → ℕ
  size (Word w) = 1
  size (Local n) = 1
  size (Unary o e) = size e + 1
  size (Binary o a b) = size a + size b + 1
  size (And a b) = size a + size b + 3
  size (Or a b) = size a + size b + 3
  size (Hold a n b) = size a + size b + 1
  size (Keep n a b) = size a + size b + 1
  size (After a b) = size a + size b + 1
  size (Field e f) = size e + 1
  size (Item a i) = size a + size i + 1
  size (SetFirst a e) = size a + size e + 3
  size (ReadPair e) = size e + 1
  size (SetPair e a) = size e + size a + 2
  size (SwapPair e a b) = size e + size a + size b + 1
  size (AttemptMark e a b) = size e + size a + size b + 1
  size (OnLock o e) = size e + lock_size o
  size (Call m e es) = size e + all_size es + 1
  size (MakeObject c m es) = all_size es + 4
  size MakeLock = 1
  size (MakeMarkable e) = size e + 1
  size (MakeArray e) = size e + 1

  pub all_size : Expressions → ℕ
  all_size End = 0
  all_size (More e es) = size e + all_size es

abbrev mutual
  -- the code that begins at a place
  pub code : ℕ → Expression → List Instruction
  code p (Word w) = op.Push w ∷ []
  code p (Local n) = op.Load n ∷ []
  code p (Unary o e) = code p e ++ unary_code o ∷ []
  code p (Binary o a b) = code p a ++ code (p + size a) b ++ binary_code o ∷ []
  code p (And a b) =
      code p a ++ op.JumpIfFalse (p + size a + size b + 2) ∷ code (p + size a + 1) b
      ++ op.Jump (p + size a + size b + 3) ∷ op.Push 0 ∷ []
  code p (Or a b) =
      code p a ++ op.JumpIfFalse (p + size a + 3) ∷ op.Push 1 ∷ op.Jump (p + size a + size b + 3) ∷
      code (p + size a + 3) b
  code p (Hold a n b) = code p a ++ code (p + size a) b ++ op.Store n ∷ []
  code p (Keep n a b) = code p a ++ op.Store n ∷ code (p + size a + 1) b
  code p (After a b) = code p a ++ op.Pop ∷ code (p + size a + 1) b
  code p (Field e f) = code p e ++ op.GetField (f + 1) ∷ []
  code p (Item a i) = code p a ++ code (p + size a) i ++ op.GetItem ∷ []
  code p (SetFirst a e) = code p a ++ op.Push 0 ∷ code (p + size a + 1) e ++ op.PutItem ∷ op.Push 0 ∷ []
  code p (ReadPair e) = code p e ++ op.ReadPair ∷ []
  code p (SetPair e a) = code p e ++ code (p + size e) a ++ op.SetPair ∷ op.Push 0 ∷ []
  code p (SwapPair e a b) = code p e ++ code (p + size e) a ++ code (p + size e + size a) b ++ op.SwapPair ∷ []
  code p (AttemptMark e a b) = code p e ++ code (p + size e) a ++ code (p + size e + size a) b ++ op.AttemptMark ∷ []
  code p (OnLock o e) = code p e ++ lock_code (p + size e) o
  code p (Call m e es) = code p e ++ all_code (p + size e) es ++ op.Enter m ∷ []
  code p (MakeObject c m es) = op.NewObject c ∷ op.Dup ∷ all_code (p + 2) es ++ op.Enter m ∷ op.Pop ∷ []
  code p MakeLock = op.NewLock ∷ []
  code p (MakeMarkable e) = code p e ++ op.NewMarkable ∷ []
  code p (MakeArray e) = code p e ++ op.NewArray ∷ []

  -- arguments, from the left
  pub all_code : ℕ → Expressions → List Instruction
  all_code p End = []
  all_code p (More e es) = code p e ++ all_code (p + size e) es
