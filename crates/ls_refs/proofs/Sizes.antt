-- How much of a statement there is to lower.
use Rattle.std.proofs.Common.{◌≡◌, ℕ, zero, suc, ◌+◌, ◌≤◌, List, [], ◌∷◌, drop, ap, arith}
use Rattle.ls_checked.specs.declared.tree.Statement as code
use Rattle.ls_checked.specs.Plain.{plain_statement, statements_of}
use Rattle.ls_checked.specs.CheckedTree.{Statement, Block, If, While, Try, Statements, Done, Then}

abbrev mutual
  -- how much there is to do at a statement
  pub size : Statement → ℕ
  size (Block ss) = 1 + sizes ss
  size (If e a b) = 1 + size a + size b
  size (While e s) = 1 + size s
  size (Try b f) = 1 + size b + size f
  size _ = 1

  -- how much there is to do at statements
  pub sizes : Statements → ℕ
  sizes Done = 0
  sizes (Then s ss) = size s + sizes ss

sizes_drop : (xs : List code.Statement) (i : ℕ) → sizes (statements_of (drop i xs)) ≤ sizes (statements_of xs)
sizes_drop [] zero = omega arith
sizes_drop [] (suc i) = omega arith
sizes_drop (x ∷ xs) zero = omega arith
sizes_drop (x ∷ xs) (suc i) = let l = sizes_drop xs i in omega (arith, l)

-- a statement of a block is no larger
pub size_at : (xs : List code.Statement) (i : ℕ) (s : code.Statement) →
    drop i xs ≡ s ∷ drop (i + 1) xs →
    size (plain_statement s) ≤ sizes (statements_of xs)
size_at xs i s split =
    let e : sizes (statements_of (drop i xs)) ≡ size (plain_statement s) + sizes (statements_of (drop (i + 1) xs)) = ap
    (λ (ys : List code.Statement). sizes (statements_of ys)) split in
    let l = sizes_drop xs i in
    omega (arith, e, l)
