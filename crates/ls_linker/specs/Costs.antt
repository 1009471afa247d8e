-- How large a statement is without `try`, by the statement that has `try`.
use Rattle.std.specs.Prelude.{ℕ, suc, ◌+◌, ◌*◌, List, [], ◌∷◌, ◌++◌, Option, Some, None, min}
use Rattle.ls_lowered.specs.LoweredTree.{Statement, Block, SetLocal, SetField, AddField, SetItem, Evaluate, If, While}
use Rattle.ls_lowered.specs.LoweredTree.{Return, Try, Guarded, Throw, Leavable, Leave, Statements, Done, Then}
use Rattle.ls_finally_exits.specs.Exits.{outward, count}
use Rattle.ls_emit.specs.Expressions.{size}
use Rattle.ls_linker.specs.declared.ways.Way.{Way}

-- how many ways there are, each with its times
abbrev pub total : List Way → ℕ
total [] = 0
total (w ∷ ws) = w.times + total ws

-- the ways of n copies
abbrev pub scaled : ℕ → List Way → List Way
scaled n [] = []
scaled n (w ∷ ws) = record { number = w.number; times = n * w.times } ∷ scaled n ws

-- a way to this number, if there is one, that many times
abbrev pub at_number : ℕ → Option ℕ → List Way
at_number times None = []
at_number times (Some n) = record { number = Some n; times = times } ∷ []

abbrev pub numbered_beyond : ℕ → ℕ → Option ℕ → List Way
numbered_beyond l times None = record { number = None; times = times } ∷ []
numbered_beyond l times (Some n) = at_number times (outward l n)

-- the way as counted from outside of l numbers, if it leads beyond them
abbrev pub one_beyond : ℕ → Way → List Way
one_beyond l w = numbered_beyond l w.times w.number

abbrev pub beyond : ℕ → List Way → List Way
beyond l [] = []
beyond l (w ∷ ws) = one_beyond l w ++ beyond l ws

abbrev pub once : Option ℕ → List Way
once number = record { number = number; times = 1 } ∷ []

-- the exits of a statement without its `try`s, in some order
abbrev mutual
  pub ways_of : Statement → List Way
  ways_of (Block ss) = all_ways ss
  ways_of (If e a b) = ways_of a ++ ways_of b
  ways_of (While e s) = ways_of s
  ways_of (Return e) = once None
  ways_of (Try b f) = ways_of b ++ scaled (2 + total (ways_of b)) (ways_of f)
  ways_of (Guarded b n h) = ways_of b ++ ways_of h
  ways_of (Leavable b xs) = beyond (suc (count xs)) (ways_of b) ++ all_ways xs
  ways_of (Leave n) = once (Some n)
  ways_of _ = []

  pub all_ways : Statements → List Way
  all_ways Done = []
  all_ways (Then s ss) = ways_of s ++ all_ways ss

-- its copies of finally blocks
abbrev mutual
  pub copied : Statement → ℕ
  copied (Block ss) = all_copied ss
  copied (If e a b) = copied a + copied b
  copied (While e s) = copied s
  copied (Try b f) = copied b + (2 + total (ways_of b)) * (1 + copied f)
  copied (Guarded b n h) = copied b + copied h
  copied (Leavable b xs) = count xs + copied b + all_copied xs
  copied _ = 0

  pub all_copied : Statements → ℕ
  all_copied Done = 0
  all_copied (Then s ss) = copied s + all_copied ss

-- how many returns there are
abbrev pub returned_one : Option ℕ → ℕ → ℕ
returned_one None times = times
returned_one (Some n) times = 0

abbrev pub returned : List Way → ℕ
returned [] = 0
returned (w ∷ ws) = returned_one w.number w.times + returned ws

-- How many instructions its code has. Each copy of a finally block has two more than the block: a jump over it and a
-- jump after it. Each return out of the body has two more: one keeps its value, one loads it. The guarded region has
-- two more. One more leaves the region, and one leaves its handler.
abbrev mutual
  pub flat_size : Statement → ℕ
  flat_size (Block ss) = all_flat_size ss
  flat_size (SetLocal n e) = size e + 1
  flat_size (SetField e f a) = size e + size a + 1
  flat_size (AddField e f a) = size e + size a + 4
  flat_size (SetItem a i e) = size a + size i + size e + 1
  flat_size (Evaluate e) = size e + 1
  flat_size (If e a b) = size e + flat_size a + flat_size b + 2
  flat_size (While e s) = size e + flat_size s + 2
  flat_size (Return e) = size e + 1
  flat_size (Try b f) = flat_size b + (2 + total (ways_of b)) * (flat_size f + 2) + 2 * returned (ways_of b) + 4
  flat_size (Guarded b n h) = flat_size b + flat_size h + 2
  flat_size (Throw n) = 2
  flat_size (Leavable b xs) = flat_size b + count xs + all_flat_size xs
  flat_size (Leave n) = 1

  pub all_flat_size : Statements → ℕ
  all_flat_size Done = 0
  all_flat_size (Then s ss) = flat_size s + all_flat_size ss

-- the instructions of a statement, without those of the statements in it
abbrev pub own_size : Statement → ℕ
own_size (SetLocal n e) = size e + 1
own_size (SetField e f a) = size e + size a + 1
own_size (AddField e f a) = size e + size a + 4
own_size (SetItem a i e) = size a + size i + size e + 1
own_size (Evaluate e) = size e + 1
own_size (If e a b) = size e + 2
own_size (While e s) = size e + 2
own_size (Return e) = size e + 1
own_size (Guarded b n h) = 2
own_size (Throw n) = 2
own_size (Leave n) = 1
own_size _ = 0

-- how long the code of a method is; 65537 if it is longer
abbrev pub counted_size : Statement → ℕ
counted_size s = min (flat_size s + 2) 65537

abbrev pub sum : List ℕ → ℕ
sum [] = 0
sum (n ∷ ns) = n + sum ns
