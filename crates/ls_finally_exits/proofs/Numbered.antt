-- The numbers of the statements of a block.
use Rattle.std.proofs.Common.{◌≡◌, ℕ, zero, suc, ◌+◌, ◌≤◌, List, [], ◌∷◌, drop, ap, arith}
use Rattle.ls_lowered.specs.declared.tree.Statement.{Statement}
use Rattle.ls_lowered.specs.Plain.{plain_statement, statements_of}
use Rattle.ls_finally_exits.specs.Numbers.{numbers, all_numbers}

numbers_drop : (xs : List Statement) (i : ℕ) → all_numbers (statements_of (drop i xs)) ≤ all_numbers (statements_of xs)
numbers_drop [] zero = omega arith
numbers_drop [] (suc i) = omega arith
numbers_drop (x ∷ xs) zero = omega arith
numbers_drop (x ∷ xs) (suc i) = let l = numbers_drop xs i in omega (arith, l)

-- a statement of a block has no more
pub numbers_at : (xs : List Statement) (i : ℕ) (s : Statement) →
    drop i xs ≡ s ∷ drop (i + 1) xs →
    numbers (plain_statement s) ≤ all_numbers (statements_of xs)
numbers_at xs i s split =
    let e : all_numbers (statements_of (drop i xs)) ≡ numbers (plain_statement s) + all_numbers
    (statements_of (drop (i + 1) xs)) = ap (λ (ys : List Statement). all_numbers (statements_of ys)) split in
    let l = numbers_drop xs i in
    omega (arith, e, l)
