-- How many loops there are in a statement, and how far its jumps lead.
use Rattle.std.specs.Prelude.{ℕ, suc, ◌+◌, ◌<◌}
use Rattle.ls_checked.specs.CheckedTree.{Statement, Block, If, While, Break, Continue, Try, Statements, Done, Then}

-- how many loops there are
abbrev mutual
  pub loops : Statement → ℕ
  loops (Block ss) = block_loops ss
  loops (If c a b) = loops a + loops b
  loops (While c s) = suc (loops s)
  loops (Try b f) = loops b + loops f
  loops _ = 0

  pub block_loops : Statements → ℕ
  block_loops Done = 0
  block_loops (Then s ss) = loops s + block_loops ss

abbrev mutual
  -- each jump belongs to one of the m loops next to it
  pub JumpsBelow : ℕ → Statement → Type 0
  JumpsBelow m (Block ss) = JumpBelow m ss
  JumpsBelow m (If c a b) = JumpsBelow m a × JumpsBelow m b
  JumpsBelow m (While c s) = JumpsBelow m s
  JumpsBelow m (Break n) = n < m
  JumpsBelow m (Continue n) = n < m
  JumpsBelow m (Try b f) = JumpsBelow m b × JumpsBelow m f
  JumpsBelow m _ = Unit {0}

  pub JumpBelow : ℕ → Statements → Type 0
  JumpBelow m Done = Unit {0}
  JumpBelow m (Then s ss) = JumpsBelow m s × JumpBelow m ss
