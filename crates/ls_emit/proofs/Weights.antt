-- How much there is to do at a statement.
use Rattle.std.proofs.Common.{ℕ, ◌+◌, ◌≤◌, arith}
use Rattle.ls_lowered.specs.LoweredTree.{Statement, Block, SetLocal, SetField, AddField, SetItem, Evaluate, If, While}
use Rattle.ls_lowered.specs.LoweredTree.{Return, Try, Guarded, Throw, Leavable, Leave, Statements, Done, Then}
use Rattle.ls_emit.specs.Statements.{statements_size, exits_size}

abbrev mutual
  -- how much there is to do at a statement
  pub weight : Statement → ℕ
  weight (Block ss) = weights ss + 1
  weight (SetLocal n e) = 0
  weight (SetField e f a) = 0
  weight (AddField e f a) = 0
  weight (SetItem a i e) = 0
  weight (Evaluate e) = 0
  weight (If e a b) = weight a + weight b + 1
  weight (While e s) = weight s + 1
  weight (Return e) = 0
  weight (Try b f) = 0
  weight (Guarded b n h) = weight b + weight h + 1
  weight (Throw n) = 0
  weight (Leavable b xs) = weight b + weights xs + 2
  weight (Leave n) = 0

  -- how much there is to do at statements
  pub weights : Statements → ℕ
  weights Done = 0
  weights (Then s ss) = weight s + weights ss

-- exits have no fewer instructions than the statements alone
pub exits_hold : (xs : Statements) → statements_size xs ≤ exits_size xs
exits_hold Done = omega arith
exits_hold (Then x xs) = omega (arith, exits_hold xs)
