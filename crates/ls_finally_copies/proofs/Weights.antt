-- How much of a tree there is to copy or to lower.
use Rattle.std.proofs.Common.{◌≡◌, ℕ, zero, suc, ◌+◌, ◌≤◌, List, [], ◌∷◌, drop, ap, arith}
use Rattle.ls_lowered.specs.declared.tree.Statement as code
use Rattle.ls_lowered.specs.Plain.{plain_statement, statements_of}
use Rattle.ls_lowered.specs.LoweredTree.{Expression, Word, Local, Unary, Binary, And, Or, Hold, Keep, After, Field}
use Rattle.ls_lowered.specs.LoweredTree.{Item, SetFirst, ReadPair, SetPair, SwapPair, AttemptMark, OnLock, Call}
use Rattle.ls_lowered.specs.LoweredTree.{MakeObject, MakeLock, MakeMarkable, MakeArray, Expressions, End, More}
use Rattle.ls_lowered.specs.LoweredTree.{Statement, Block, If, While, Try, Guarded, Leavable, Statements, Done, Then}

abbrev mutual
  -- how much there is to do at an expression
  pub weight : Expression → ℕ
  weight (Word w) = 1
  weight (Local n) = 1
  weight (Unary op e) = 1 + weight e
  weight (Binary op a b) = 1 + weight a + weight b
  weight (And a b) = 1 + weight a + weight b
  weight (Or a b) = 1 + weight a + weight b
  weight (Hold a n b) = 1 + weight a + weight b
  weight (Keep n a b) = 1 + weight a + weight b
  weight (After a b) = 1 + weight a + weight b
  weight (Field e f) = 1 + weight e
  weight (Item a i) = 1 + weight a + weight i
  weight (SetFirst a e) = 1 + weight a + weight e
  weight (ReadPair e) = 1 + weight e
  weight (SetPair e a) = 1 + weight e + weight a
  weight (SwapPair e a b) = 1 + weight e + weight a + weight b
  weight (AttemptMark e a b) = 1 + weight e + weight a + weight b
  weight (OnLock op e) = 1 + weight e
  weight (Call m e es) = 1 + weight e + weights es
  weight (MakeObject c m es) = 1 + weights es
  weight MakeLock = 1
  weight (MakeMarkable e) = 1 + weight e
  weight (MakeArray e) = 1 + weight e

  -- how much there is to do at expressions
  pub weights : Expressions → ℕ
  weights End = 1
  weights (More e es) = 1 + weight e + weights es

abbrev mutual
  -- how much there is to do at a statement
  pub size : Statement → ℕ
  size (Block ss) = 1 + sizes ss
  size (If e a b) = 1 + size a + size b
  size (While e s) = 1 + size s
  size (Try b f) = 1 + size b + size f
  size (Guarded b n h) = 1 + size b + size h
  size (Leavable b xs) = 1 + size b + sizes xs
  size _ = 1

  -- how much there is to do at statements
  pub sizes : Statements → ℕ
  sizes Done = 0
  sizes (Then s ss) = size s + sizes ss

sizes_drop : (xs : List code.Statement) (i : ℕ) → sizes (statements_of (drop i xs)) ≤ sizes (statements_of xs)
sizes_drop [] zero = omega arith
sizes_drop [] (suc i) = omega arith
sizes_drop (x ∷ xs) zero = omega arith
sizes_drop (x ∷ xs) (suc i) = let l = sizes_drop xs i in omega (arith, l)

-- a statement of a block is no larger
pub size_at : (xs : List code.Statement) (i : ℕ) (s : code.Statement) →
    drop i xs ≡ s ∷ drop (i + 1) xs →
    size (plain_statement s) ≤ sizes (statements_of xs)
size_at xs i s split =
    let e : sizes (statements_of (drop i xs)) ≡ size (plain_statement s) + sizes (statements_of (drop (i + 1) xs)) = ap
    (λ (ys : List code.Statement). sizes (statements_of ys)) split in
    let l = sizes_drop xs i in
    omega (arith, e, l)
