-- What one statement of many, and those after it, come to.
use Rattle.std.proofs.Common.{◌≡◌, ◌+◌, ◌-◌, ◌<◌, ◌≤◌, ℕ, zero, suc, List, [], ◌∷◌, length, drop, ap, sym, subst, arith}
use Rattle.std.specs.Prelude.{slice_index_or}
use Rattle.ls_lowered.specs.declared.tree.Statement.{Statement}
use Rattle.ls_lowered.specs.Plain.{plain_statement, statements_of}
use Rattle.ls_emit.specs.Statements.{statement_size, statements_size, exits_size}
use Rattle.ls_emit.proofs.Weights.{weight, weights}

size_here : (xs : List Statement) (i : ℕ) (s : Statement) → i < length xs → s ≡ slice_index_or xs i s →
    statement_size (plain_statement s) + statements_size (statements_of (drop (suc i) xs)) ≤ statements_size
    (statements_of xs)
size_here [] i s l e = absurd (let f : ⊥ = omega arith in f)
size_here (x ∷ xs) zero s l e = let same = ap (λ z. statement_size (plain_statement z)) e in omega (arith, same)
size_here (x ∷ xs) (suc i) s l e = let rest = size_here xs i s (omega arith) e in omega (arith, rest)

room_here : (xs : List Statement) (i : ℕ) (s : Statement) → i < length xs → s ≡ slice_index_or xs i s →
    1 + statement_size (plain_statement s) + exits_size (statements_of (drop (suc i) xs)) ≤ exits_size
    (statements_of xs)
room_here [] i s l e = absurd (let f : ⊥ = omega arith in f)
room_here (x ∷ xs) zero s l e = let same = ap (λ z. statement_size (plain_statement z)) e in omega (arith, same)
room_here (x ∷ xs) (suc i) s l e = let rest = room_here xs i s (omega arith) e in omega (arith, rest)

-- there is no more to do at one statement than at all
pub weight_here : (xs : List Statement) (i : ℕ) (s : Statement) →
    i < length xs →
    s ≡ slice_index_or xs i s →
    weight (plain_statement s) ≤ weights (statements_of xs)
weight_here [] i s l e = absurd (let f : ⊥ = omega arith in f)
weight_here (x ∷ xs) zero s l e = let same = ap (λ z. weight (plain_statement z)) e in omega (arith, same)
weight_here (x ∷ xs) (suc i) s l e = let rest = weight_here xs i s (omega arith) e in omega (arith, rest)

-- the statement before place i, and those from there on
pub size_before : (xs : List Statement) (i : ℕ) (s : Statement) →
    0 < i →
    i ≤ length xs →
    s ≡ slice_index_or xs (i - 1) s →
    statement_size (plain_statement s) + statements_size (statements_of (drop i xs)) ≤ statements_size
    (statements_of xs)
size_before xs i s some l e =
    let next : suc (i - 1) ≡ i = omega arith in
    subst (λ n. statement_size (plain_statement s) + statements_size (statements_of (drop n xs)) ≤ statements_size
    (statements_of xs)) next
    (size_here xs (i - 1) s (omega (arith, some, l)) e)

-- the exit before place i, and those from there on
pub room_before : (xs : List Statement) (i : ℕ) (s : Statement) →
    0 < i →
    i ≤ length xs →
    s ≡ slice_index_or xs (i - 1) s →
    1 + statement_size (plain_statement s) + exits_size (statements_of (drop i xs)) ≤ exits_size (statements_of xs)
room_before xs i s some l e =
    let next : suc (i - 1) ≡ i = omega arith in
    subst (λ n. 1 + statement_size (plain_statement s) + exits_size (statements_of (drop n xs)) ≤ exits_size
    (statements_of xs)) next
    (room_here xs (i - 1) s (omega (arith, some, l)) e)
