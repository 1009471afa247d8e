-- The trees whose numbers are operands: each is below 2 ^ 32.
use Rattle.std.specs.Prelude.{◌<◌, ◌^◌, ◌+◌}
use Rattle.ls_lowered.specs.LoweredTree.{Expression, Word, Local, Unary, Binary, And, Or, Hold, Keep, After, Field}
use Rattle.ls_lowered.specs.LoweredTree.{Item, SetFirst, ReadPair, SetPair, SwapPair, AttemptMark, OnLock, Call}
use Rattle.ls_lowered.specs.LoweredTree.{MakeObject, MakeLock, MakeMarkable, MakeArray, Expressions, End, More}
use Rattle.ls_lowered.specs.LoweredTree.{Statement, Block, SetLocal, SetField, AddField, SetItem, Evaluate, If, While}
use Rattle.ls_lowered.specs.LoweredTree.{Return, Try, Guarded, Throw, Leavable, Leave, Statements, Done, Then}

abbrev mutual
  pub IsSmall : Expression → Type 0
  IsSmall (Word w) = w < 2 ^ 32
  IsSmall (Local n) = n < 2 ^ 32
  IsSmall (Unary op e) = IsSmall e
  IsSmall (Binary op a b) = IsSmall a × IsSmall b
  IsSmall (And a b) = IsSmall a × IsSmall b
  IsSmall (Or a b) = IsSmall a × IsSmall b
  IsSmall (Hold a n b) = IsSmall a × (n < 2 ^ 32) × IsSmall b
  IsSmall (Keep n a b) = IsSmall a × (n < 2 ^ 32) × IsSmall b
  IsSmall (After a b) = IsSmall a × IsSmall b
  IsSmall (Field e f) = IsSmall e × (f + 1 < 2 ^ 32)
  IsSmall (Item a i) = IsSmall a × IsSmall i
  IsSmall (SetFirst a e) = IsSmall a × IsSmall e
  IsSmall (ReadPair e) = IsSmall e
  IsSmall (SetPair e a) = IsSmall e × IsSmall a
  IsSmall (SwapPair e a b) = IsSmall e × IsSmall a × IsSmall b
  IsSmall (AttemptMark e a b) = IsSmall e × IsSmall a × IsSmall b
  IsSmall (OnLock op e) = IsSmall e
  IsSmall (Call m e es) = (m < 2 ^ 32) × IsSmall e × AreSmall es
  IsSmall (MakeObject c m es) = (c < 2 ^ 32) × (m < 2 ^ 32) × AreSmall es
  IsSmall MakeLock = Unit {0}
  IsSmall (MakeMarkable e) = IsSmall e
  IsSmall (MakeArray e) = IsSmall e

  pub AreSmall : Expressions → Type 0
  AreSmall End = Unit {0}
  AreSmall (More e es) = IsSmall e × AreSmall es

abbrev mutual
  pub IsSmallStatement : Statement → Type 0
  IsSmallStatement (Block ss) = AreSmallStatements ss
  IsSmallStatement (SetLocal n e) = (n < 2 ^ 32) × IsSmall e
  IsSmallStatement (SetField e f a) = (f + 1 < 2 ^ 32) × IsSmall e × IsSmall a
  IsSmallStatement (AddField e f a) = (f + 1 < 2 ^ 32) × IsSmall e × IsSmall a
  IsSmallStatement (SetItem a i e) = IsSmall a × IsSmall i × IsSmall e
  IsSmallStatement (Evaluate e) = IsSmall e
  IsSmallStatement (If e a b) = IsSmall e × IsSmallStatement a × IsSmallStatement b
  IsSmallStatement (While e s) = IsSmall e × IsSmallStatement s
  IsSmallStatement (Return e) = IsSmall e
  IsSmallStatement (Try b f) = Unit {0}
  IsSmallStatement (Guarded b n h) = (n < 2 ^ 32) × IsSmallStatement b × IsSmallStatement h
  IsSmallStatement (Throw n) = n < 2 ^ 32
  IsSmallStatement (Leavable b xs) = IsSmallStatement b × AreSmallStatements xs
  IsSmallStatement (Leave n) = Unit {0}

  pub AreSmallStatements : Statements → Type 0
  AreSmallStatements Done = Unit {0}
  AreSmallStatements (Then s ss) = IsSmallStatement s × AreSmallStatements ss
