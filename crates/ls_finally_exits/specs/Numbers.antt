-- How many numbers the leavable statements in a statement have, all together: one for each exit, and one for each end.
use Rattle.std.specs.Prelude.{ℕ, suc, ◌+◌}
use Rattle.ls_lowered.specs.LoweredTree.{Statement, Block, If, While, Try, Guarded, Leavable, Statements, Done, Then}
use Rattle.ls_finally_exits.specs.Exits.{count}

abbrev mutual
  pub numbers : Statement → ℕ
  numbers (Block ss) = all_numbers ss
  numbers (If e a b) = numbers a + numbers b
  numbers (While e s) = numbers s
  numbers (Try b f) = numbers b + numbers f
  numbers (Guarded b n h) = numbers b + numbers h
  numbers (Leavable b xs) = suc (count xs) + numbers b + all_numbers xs
  numbers _ = 0

  pub all_numbers : Statements → ℕ
  all_numbers Done = 0
  all_numbers (Then s ss) = numbers s + all_numbers ss
