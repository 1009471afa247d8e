-- The sizes that are known ahead while code is made: those of the statements of a block, of second branches, of
-- handlers
-- and of exits. They stand in the order in which the code needs them.
use Rattle.std.specs.Prelude.{◌≡◌, ◌≤◌, ℕ, List, [], ◌∷◌, ◌++◌, drop, take, length, slice_index_or}
use Rattle.ls_lowered.specs.LoweredTree.{Statement, Block, SetLocal, SetField, AddField, SetItem, Evaluate, If, While}
use Rattle.ls_lowered.specs.LoweredTree.{Return, Try, Guarded, Throw, Leavable, Leave, Statements, Done, Then}
use Rattle.ls_emit.specs.Statements.{statement_size}

-- the size of each exit
abbrev pub exit_sizes : Statements → List ℕ
exit_sizes Done = []
exit_sizes (Then x xs) = statement_size x ∷ exit_sizes xs

abbrev mutual
  -- the sizes that a statement needs, and after them others
  pub sizes_ahead : Statement → List ℕ → List ℕ
  sizes_ahead (Block ss) r = block_ahead ss r
  sizes_ahead (SetLocal n e) r = r
  sizes_ahead (SetField e f a) r = r
  sizes_ahead (AddField e f a) r = r
  sizes_ahead (SetItem a i e) r = r
  sizes_ahead (Evaluate e) r = r
  sizes_ahead (If e a b) r = statement_size b ∷ sizes_ahead a (sizes_ahead b r)
  sizes_ahead (While e s) r = sizes_ahead s r
  sizes_ahead (Return e) r = r
  sizes_ahead (Try b f) r = r
  sizes_ahead (Guarded b n h) r = statement_size h ∷ sizes_ahead b (sizes_ahead h r)
  sizes_ahead (Throw n) r = r
  sizes_ahead (Leavable b xs) r = exit_sizes xs ++ sizes_ahead b (exits_ahead xs r)
  sizes_ahead (Leave n) r = r

  pub block_ahead : Statements → List ℕ → List ℕ
  block_ahead Done r = r
  block_ahead (Then s ss) r = statement_size s ∷ sizes_ahead s (block_ahead ss r)

  pub exits_ahead : Statements → List ℕ → List ℕ
  exits_ahead Done r = r
  exits_ahead (Then x xs) r = sizes_ahead x (exits_ahead xs r)

-- how many statements
abbrev pub exit_count : Statements → ℕ
exit_count xs = length (exit_sizes xs)

abbrev mutual
  -- what is left of sizes after those that a statement needs
  pub left_by : Statement → List ℕ → List ℕ
  left_by (Block ss) l = left_by_block ss l
  left_by (SetLocal n e) l = l
  left_by (SetField e f a) l = l
  left_by (AddField e f a) l = l
  left_by (SetItem a i e) l = l
  left_by (Evaluate e) l = l
  left_by (If e a b) l = left_by b (left_by a (drop 1 l))
  left_by (While e s) l = left_by s l
  left_by (Return e) l = l
  left_by (Try b f) l = l
  left_by (Guarded b n h) l = left_by h (left_by b (drop 1 l))
  left_by (Throw n) l = l
  left_by (Leavable b xs) l = left_by_exits xs (left_by b (drop (exit_count xs) l))
  left_by (Leave n) l = l

  pub left_by_block : Statements → List ℕ → List ℕ
  left_by_block Done l = l
  left_by_block (Then s ss) l = left_by_block ss (left_by s (drop 1 l))

  pub left_by_exits : Statements → List ℕ → List ℕ
  left_by_exits Done l = l
  left_by_exits (Then x xs) l = left_by_exits xs (left_by x l)

-- the first of the sizes is that of a statement
abbrev pub IsNext : Statement → List ℕ → Type 0
IsNext s l = (1 ≤ length l) × (slice_index_or l 0 0 ≡ statement_size s)

abbrev mutual
  -- the sizes begin with those that a statement needs
  pub AreAhead : Statement → List ℕ → Type 0
  AreAhead (Block ss) l = AreAheadOfBlock ss l
  AreAhead (SetLocal n e) l = Unit {0}
  AreAhead (SetField e f a) l = Unit {0}
  AreAhead (AddField e f a) l = Unit {0}
  AreAhead (SetItem a i e) l = Unit {0}
  AreAhead (Evaluate e) l = Unit {0}
  AreAhead (If e a b) l = IsNext b l × AreAhead a (drop 1 l) × AreAhead b (left_by a (drop 1 l))
  AreAhead (While e s) l = AreAhead s l
  AreAhead (Return e) l = Unit {0}
  AreAhead (Try b f) l = Unit {0}
  AreAhead (Guarded b n h) l = IsNext h l × AreAhead b (drop 1 l) × AreAhead h (left_by b (drop 1 l))
  AreAhead (Throw n) l = Unit {0}
  AreAhead (Leavable b xs) l =
      (exit_count xs ≤ length l) × (take (exit_count xs) l ≡ exit_sizes xs)
      × AreAhead b (drop (exit_count xs) l) × AreAheadOfExits xs (left_by b (drop (exit_count xs) l))
  AreAhead (Leave n) l = Unit {0}

  pub AreAheadOfBlock : Statements → List ℕ → Type 0
  AreAheadOfBlock Done l = Unit {0}
  AreAheadOfBlock (Then s ss) l = IsNext s l × AreAhead s (drop 1 l) × AreAheadOfBlock ss (left_by s (drop 1 l))

  pub AreAheadOfExits : Statements → List ℕ → Type 0
  AreAheadOfExits Done l = Unit {0}
  AreAheadOfExits (Then x xs) l = AreAhead x l × AreAheadOfExits xs (left_by x l)
