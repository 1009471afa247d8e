-- How many operands a tree's code has at most at one time.
use Rattle.std.specs.Prelude.{ℕ, ◌+◌, max}
use Rattle.ls_lowered.specs.LoweredTree.{Expression, Word, Local, Unary, Binary, And, Or, Hold, Keep, After, Field}
use Rattle.ls_lowered.specs.LoweredTree.{Item, SetFirst, ReadPair, SetPair, SwapPair, AttemptMark, OnLock, Call}
use Rattle.ls_lowered.specs.LoweredTree.{MakeObject, MakeLock, MakeMarkable, MakeArray, Expressions, End, More}
use Rattle.ls_lowered.specs.LoweredTree.{Statement, Block, SetLocal, SetField, AddField, SetItem, Evaluate, If, While}
use Rattle.ls_lowered.specs.LoweredTree.{Return, Try, Guarded, Throw, Leavable, Leave, Statements, Done, Then}

abbrev mutual
  pub need : Expression → ℕ
  need (Word w) = 1
  need (Local n) = 1
  need (Unary op e) = need e
  need (Binary op a b) = max (need a) (1 + need b)
  need (And a b) = max (need a) (need b)
  need (Or a b) = max (need a) (need b)
  need (Hold a n b) = max (need a) (1 + need b)
  need (Keep n a b) = max (need a) (need b)
  need (After a b) = max (need a) (need b)
  need (Field e f) = need e
  need (Item a i) = max (need a) (1 + need i)
  need (SetFirst a e) = max (need a) (2 + need e)
  need (ReadPair e) = need e
  need (SetPair e a) = max (need e) (1 + need a)
  need (SwapPair e a b) = max (need e) (max (1 + need a) (2 + need b))
  need (AttemptMark e a b) = max (need e) (max (1 + need a) (2 + need b))
  need (OnLock op e) = need e + 1
  need (Call m e es) = max (need e) (1 + all_need es)
  need (MakeObject c m es) = 2 + all_need es
  need MakeLock = 1
  need (MakeMarkable e) = need e
  need (MakeArray e) = need e

  pub all_need : Expressions → ℕ
  all_need End = 0
  all_need (More e es) = max (need e) (1 + all_need es)

abbrev mutual
  pub statement_need : Statement → ℕ
  statement_need (Block ss) = statements_need ss
  statement_need (SetLocal n e) = need e
  statement_need (SetField e f a) = max (need e) (1 + need a)
  statement_need (AddField e f a) = max (need e) (2 + need a)
  statement_need (SetItem a i e) = max (need a) (max (1 + need i) (2 + need e))
  statement_need (Evaluate e) = need e
  statement_need (If e a b) = max (need e) (max (statement_need a) (statement_need b))
  statement_need (While e s) = max (need e) (statement_need s)
  statement_need (Return e) = need e
  statement_need (Try b f) = 0
  statement_need (Guarded b n h) = max 1 (max (statement_need b) (statement_need h))
  statement_need (Throw n) = 1
  statement_need (Leavable b xs) = max (statement_need b) (statements_need xs)
  statement_need (Leave n) = 0

  pub statements_need : Statements → ℕ
  statements_need Done = 0
  statements_need (Then s ss) = max (statement_need s) (statements_need ss)
