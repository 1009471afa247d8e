-- Locals that agree, and statements that name only low locals.
use Rattle.std.specs.Prelude.{◌≡◌, ℕ, ◌<◌, ◌≤◌, List, length, slice_index}
use Rattle.ls_lowered.specs.LoweredTree.{Expression, Word, Local, Unary, Binary, And, Or, Hold, Keep, After, Field}
use Rattle.ls_lowered.specs.LoweredTree.{Item, SetFirst, ReadPair, SetPair, SwapPair, AttemptMark, OnLock, Call}
use Rattle.ls_lowered.specs.LoweredTree.{MakeObject, MakeLock, MakeMarkable, MakeArray, Expressions, End, More}
use Rattle.ls_lowered.specs.LoweredTree.{Statement, Block, SetLocal, SetField, AddField, SetItem, Evaluate, If, While}
use Rattle.ls_lowered.specs.LoweredTree.{Return, Try, Guarded, Throw, Leavable, Leave, Statements, Done, Then}

-- each local below k exists in both lists, and is the same
pub record Agree (k : ℕ) (ls new : List ℕ) : Type 0 where
  pub short : k ≤ length ls
  pub long : k ≤ length new
  pub at : (i : ℕ) → i < k → slice_index new i ≡ slice_index ls i

-- an expression that reads and sets only locals below k
abbrev mutual
  pub IsBelow : ℕ → Expression → Type 0
  IsBelow k (Word w) = Unit {0}
  IsBelow k (Local n) = n < k
  IsBelow k (Unary op e) = IsBelow k e
  IsBelow k (Binary op a b) = IsBelow k a × IsBelow k b
  IsBelow k (And a b) = IsBelow k a × IsBelow k b
  IsBelow k (Or a b) = IsBelow k a × IsBelow k b
  IsBelow k (Hold a n b) = (n < k) × IsBelow k a × IsBelow k b
  IsBelow k (Keep n a b) = (n < k) × IsBelow k a × IsBelow k b
  IsBelow k (After a b) = IsBelow k a × IsBelow k b
  IsBelow k (Field e f) = IsBelow k e
  IsBelow k (Item a i) = IsBelow k a × IsBelow k i
  IsBelow k (SetFirst a e) = IsBelow k a × IsBelow k e
  IsBelow k (ReadPair e) = IsBelow k e
  IsBelow k (SetPair e a) = IsBelow k e × IsBelow k a
  IsBelow k (SwapPair e a b) = IsBelow k e × IsBelow k a × IsBelow k b
  IsBelow k (AttemptMark e a b) = IsBelow k e × IsBelow k a × IsBelow k b
  IsBelow k (OnLock op e) = IsBelow k e
  IsBelow k (Call m e es) = IsBelow k e × AreBelow k es
  IsBelow k (MakeObject c m es) = AreBelow k es
  IsBelow k MakeLock = Unit {0}
  IsBelow k (MakeMarkable e) = IsBelow k e
  IsBelow k (MakeArray e) = IsBelow k e

  pub AreBelow : ℕ → Expressions → Type 0
  AreBelow k End = Unit {0}
  AreBelow k (More e es) = IsBelow k e × AreBelow k es

-- a statement without `try`, which names only locals below k
abbrev mutual
  pub Fits : ℕ → Statement → Type 0
  Fits k (Block ss) = AllFit k ss
  Fits k (SetLocal n e) = (n < k) × IsBelow k e
  Fits k (SetField e f a) = IsBelow k e × IsBelow k a
  Fits k (AddField e f a) = IsBelow k e × IsBelow k a
  Fits k (SetItem a i e) = IsBelow k a × IsBelow k i × IsBelow k e
  Fits k (Evaluate e) = IsBelow k e
  Fits k (If e a b) = IsBelow k e × Fits k a × Fits k b
  Fits k (While e s) = IsBelow k e × Fits k s
  Fits k (Return e) = IsBelow k e
  Fits k (Try b f) = ⊥
  Fits k (Guarded b n h) = (n < k) × Fits k b × Fits k h
  Fits k (Throw n) = n < k
  Fits k (Leavable b xs) = Fits k b × AllFit k xs
  Fits k (Leave n) = Unit {0}

  pub AllFit : ℕ → Statements → Type 0
  AllFit k Done = Unit {0}
  AllFit k (Then s ss) = Fits k s × AllFit k ss
