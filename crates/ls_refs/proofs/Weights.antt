-- How much of a tree there is to lower.
use Rattle.std.proofs.Common.{ℕ, ◌+◌}
use Rattle.ls_checked.specs.CheckedTree.{Expression, Literal, Slot, Field, Item, Negate, Not, Binary, And, Or, Call}
use Rattle.ls_checked.specs.CheckedTree.{MakeObject, MakeLock, MakeMarkable, MakeArray, Expressions, End, More}

abbrev mutual
  -- how much there is to do at an expression
  pub weight : Expression → ℕ
  weight (Literal v) = 1
  weight (Slot n) = 1
  weight (Field e class field) = 1 + weight e
  weight (Item a i) = 1 + weight a + weight i
  weight (Negate e) = 1 + weight e
  weight (Not e) = 1 + weight e
  weight (Binary op a b) = 1 + weight a + weight b
  weight (And a b) = 1 + weight a + weight b
  weight (Or a b) = 1 + weight a + weight b
  weight (Call e called es) = 1 + weight e + weights es
  weight (MakeObject class es) = 1 + weights es
  weight MakeLock = 1
  weight (MakeMarkable class es) = 1 + weights es
  weight (MakeArray e) = 1 + weight e

  -- how much there is to do at expressions
  pub weights : Expressions → ℕ
  weights End = 1
  weights (More e es) = 1 + weight e + weights es
