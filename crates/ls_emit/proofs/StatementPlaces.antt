-- How long the code of a statement is, and which handler rows hold a place.
use Rattle.std.proofs.Common.{◌≡◌, ℕ, suc, ◌+◌, ◌<◌, ◌≤◌, List, [], ◌∷◌, ◌++◌, length, Some, ◌&&◌, ◌⊎◌, inl, inr}
use Rattle.std.proofs.Common.{⊎_elim, refl, ap, ◌∙◌, arith, length-append, nat_lt, if◌then◌else◌}
use Rattle.std.proofs.lemmas.Bool.{le-leb, lt-leb, lt-ltb, le-ltb, cases_lt}
use Rattle.ls_code.specs.Throws.{find_row}
use Rattle.ls_code.specs.declared.code.HandlerRow.{HandlerRow}
use Rattle.ls_lowered.specs.LoweredTree.{Statement, Block, SetLocal, SetField, AddField, SetItem, Evaluate, If, While}
use Rattle.ls_lowered.specs.LoweredTree.{Return, Try, Guarded, Throw, Leavable, Leave, Statements, Done, Then}
use Rattle.ls_emit.specs.Expressions.{size}
use Rattle.ls_emit.specs.Statements.{Targets, statement_size, statements_size, exits_size, places, statement_code}
use Rattle.ls_emit.specs.Statements.{statements_code, exits_code, row_of, statement_rows, statements_rows}
use Rattle.ls_emit.specs.Statements.{exits_rows}
use Rattle.ls_emit.specs.Emittable.{statement_count}
use Rattle.ls_emit.proofs.Places.{size_is}

mutual
  -- how long the code of a statement is
  pub statement_size_is : (s : Statement) (t : Targets) (p : ℕ) → length (statement_code t p s) ≡ statement_size s
  statement_size_is (Block ss) t p = statements_size_is ss t p
  statement_size_is (SetLocal n e) t p = simp (length-append, size_is e p) (omega arith)
  statement_size_is (SetField e f a) t p = simp (length-append, size_is e p, size_is a (p + size e)) (omega arith)
  statement_size_is (AddField e f a) t p = simp (length-append, size_is e p, size_is a (p + size e + 2)) (omega arith)
  statement_size_is (SetItem a i e) t p = simp (
    length-append,
    size_is a p,
    size_is i (p + size a),
    size_is e (p + size a + size i),
  ) (omega arith)
  statement_size_is (Evaluate e) t p = simp (length-append, size_is e p) (omega arith)
  statement_size_is (If e a b) t p = simp (
    length-append,
    size_is e p,
    statement_size_is a t (p + size e + 1),
    statement_size_is b t (p + size e + statement_size a + 2),
  ) (omega arith)
  statement_size_is (While e s) t p = simp (length-append, size_is e p, statement_size_is s t (p + size e + 1))
      (omega arith)
  statement_size_is (Return e) t p = simp (length-append, size_is e p) (omega arith)
  statement_size_is (Try b f) t p = refl
  statement_size_is (Guarded b n h) t p = simp (
    length-append,
    statement_size_is b t p,
    statement_size_is h t (p + statement_size b + 2),
  ) (omega arith)
  statement_size_is (Throw n) t p = refl
  statement_size_is (Leavable b xs) t p = simp (
    length-append,
    statement_size_is b (places (p + statement_size b) xs ++ t) p,
    exits_size_is xs t (p + statement_size b + exits_size xs) (p + statement_size b),
  ) (omega arith)
  statement_size_is (Leave n) t p = refl

  pub statements_size_is : (ss : Statements) (t : Targets) (p : ℕ) →
      length (statements_code t p ss) ≡ statements_size ss
  statements_size_is Done t p = refl
  statements_size_is (Then s ss) t p = simp (
    length-append,
    statement_size_is s t p,
    statements_size_is ss t (p + statement_size s),
  ) (omega arith)

  pub exits_size_is : (xs : Statements) (t : Targets) (stop p : ℕ) → length (exits_code t stop p xs) ≡ exits_size xs
  exits_size_is Done t stop p = refl
  exits_size_is (Then x xs) t stop p = simp (
    length-append,
    statement_size_is x t (p + 1),
    exits_size_is xs t stop (p + 1 + statement_size x),
  ) (omega arith)

-- how many numbers a leavable statement has
places_length : (xs : Statements) (p : ℕ) → length (places p xs) ≡ suc (statement_count xs)
places_length Done p = refl
places_length (Then x xs) p = ap suc (places_length xs (p + 1 + statement_size x))

-- how many targets there are in the body of a leavable statement
pub targets_within : (xs : Statements) (t : Targets) (p : ℕ) →
    length (places p xs ++ t) ≡ suc (statement_count xs) + length t
targets_within xs t p = omega (arith, length-append (places p xs) t, places_length xs p)

-- no row holds the place
abbrev pub NoRow : ℕ → List HandlerRow → Type 0
NoRow c [] = Unit {0}
NoRow c (r ∷ rs) = ((c < r.from) ⊎ (r.to ≤ c)) × NoRow c rs

-- no row of two lists holds a place, if no row of either does
pub no_row-append : (c : ℕ) (a b : List HandlerRow) → NoRow c a → NoRow c b → NoRow c (a ++ b)
no_row-append c [] b x y = y
no_row-append c (r ∷ a) b x y = (x.0, no_row-append c a b x.1 y)

-- a row that holds a place is found first
pub row_in : (r : HandlerRow) (rs : List HandlerRow) (c : ℕ) → r.from ≤ c → c < r.to → find_row (r ∷ rs) c ≡ Some r
row_in r rs c l1 l2 =
    ap (λ b. if b && nat_lt c r.to then Some r else find_row rs c) (le-leb r.from c l1)
    ∙ ap (λ b. if b then Some r else find_row rs c) (lt-ltb c r.to l2)

row_before : (r : HandlerRow) (rs : List HandlerRow) (c : ℕ) → c < r.from → find_row (r ∷ rs) c ≡ find_row rs c
row_before r rs c l = ap (λ b. if b && nat_lt c r.to then Some r else find_row rs c) (lt-leb r.from c l)

row_past : (r : HandlerRow) (rs : List HandlerRow) (c : ℕ) → r.from ≤ c → r.to ≤ c → find_row (r ∷ rs) c ≡ find_row rs c
row_past r rs c l0 l =
    ap (λ b. if b && nat_lt c r.to then Some r else find_row rs c) (le-leb r.from c l0)
    ∙ ap (λ b. if b then Some r else find_row rs c) (le-ltb c r.to l)

row_out : (r : HandlerRow) (rs : List HandlerRow) (c : ℕ) →
    (c < r.from) ⊎ (r.to ≤ c) →
    find_row (r ∷ rs) c ≡ find_row rs c
row_out r rs c (inl l) = row_before r rs c l
row_out r rs c (inr l) = ⊎_elim (λ lt. row_before r rs c lt) (λ le. row_past r rs c le l) (cases_lt c r.from)

-- if no row of the first list holds a place, the second list decides
pub row_behind : (c : ℕ) (a b : List HandlerRow) → NoRow c a → find_row (a ++ b) c ≡ find_row b c
row_behind c [] b x = refl
row_behind c (r ∷ a) b x = row_out r (a ++ b) c x.0 ∙ row_behind c a b x.1

mutual
  -- no row of a statement holds a place before it
  pub rows_before : (s : Statement) (p c : ℕ) → c < p → NoRow c (statement_rows p s)
  rows_before (Block ss) p c l = all_before ss p c l
  rows_before (SetLocal n e) p c l = tt
  rows_before (SetField e f a) p c l = tt
  rows_before (AddField e f a) p c l = tt
  rows_before (SetItem a i e) p c l = tt
  rows_before (Evaluate e) p c l = tt
  rows_before (If e a b) p c l = no_row-append c (statement_rows (p + size e + 1) a)
      (statement_rows (p + size e + statement_size a + 2) b) (rows_before a (p + size e + 1) c (omega arith))
      (rows_before b (p + size e + statement_size a + 2) c (omega arith))
  rows_before (While e s) p c l = rows_before s (p + size e + 1) c (omega arith)
  rows_before (Return e) p c l = tt
  rows_before (Try b f) p c l = tt
  rows_before (Guarded b n h) p c l = no_row-append c (statement_rows p b)
      (row_of p (statement_size b) ∷ statement_rows (p + statement_size b + 2) h) (rows_before b p c l)
      (inl l, rows_before h (p + statement_size b + 2) c (omega arith))
  rows_before (Throw n) p c l = tt
  rows_before (Leavable b xs) p c l = no_row-append c (statement_rows p b) (exits_rows (p + statement_size b) xs)
      (rows_before b p c l) (exits_before xs (p + statement_size b) c (omega arith))
  rows_before (Leave n) p c l = tt

  -- no row of statements holds a place before them
  pub all_before : (ss : Statements) (p c : ℕ) → c < p → NoRow c (statements_rows p ss)
  all_before Done p c l = tt
  all_before (Then s ss) p c l = no_row-append c (statement_rows p s) (statements_rows (p + statement_size s) ss)
      (rows_before s p c l) (all_before ss (p + statement_size s) c (omega arith))

  -- no row of exits holds a place before them
  pub exits_before : (xs : Statements) (p c : ℕ) → c < p → NoRow c (exits_rows p xs)
  exits_before Done p c l = tt
  exits_before (Then x xs) p c l = no_row-append c (statement_rows (p + 1) x) (exits_rows (p + 1 + statement_size x) xs)
      (rows_before x (p + 1) c (omega arith)) (exits_before xs (p + 1 + statement_size x) c (omega arith))

mutual
  -- no row of a statement holds a place after it
  pub rows_past : (s : Statement) (p c : ℕ) → p + statement_size s ≤ c → NoRow c (statement_rows p s)
  rows_past (Block ss) p c l = all_past ss p c l
  rows_past (SetLocal n e) p c l = tt
  rows_past (SetField e f a) p c l = tt
  rows_past (AddField e f a) p c l = tt
  rows_past (SetItem a i e) p c l = tt
  rows_past (Evaluate e) p c l = tt
  rows_past (If e a b) p c l = no_row-append c (statement_rows (p + size e + 1) a)
      (statement_rows (p + size e + statement_size a + 2) b) (rows_past a (p + size e + 1) c (omega arith))
      (rows_past b (p + size e + statement_size a + 2) c (omega arith))
  rows_past (While e s) p c l = rows_past s (p + size e + 1) c (omega arith)
  rows_past (Return e) p c l = tt
  rows_past (Try b f) p c l = tt
  rows_past (Guarded b n h) p c l = no_row-append c (statement_rows p b)
      (row_of p (statement_size b) ∷ statement_rows (p + statement_size b + 2) h) (rows_past b p c (omega arith))
      (inr (omega arith), rows_past h (p + statement_size b + 2) c (omega arith))
  rows_past (Throw n) p c l = tt
  rows_past (Leavable b xs) p c l = no_row-append c (statement_rows p b) (exits_rows (p + statement_size b) xs)
      (rows_past b p c (omega arith)) (exits_past xs (p + statement_size b) c (omega arith))
  rows_past (Leave n) p c l = tt

  pub all_past : (ss : Statements) (p c : ℕ) → p + statements_size ss ≤ c → NoRow c (statements_rows p ss)
  all_past Done p c l = tt
  all_past (Then s ss) p c l = no_row-append c (statement_rows p s) (statements_rows (p + statement_size s) ss)
      (rows_past s p c (omega arith)) (all_past ss (p + statement_size s) c (omega arith))

  exits_past : (xs : Statements) (p c : ℕ) → p + exits_size xs ≤ c → NoRow c (exits_rows p xs)
  exits_past Done p c l = tt
  exits_past (Then x xs) p c l = no_row-append c (statement_rows (p + 1) x) (exits_rows (p + 1 + statement_size x) xs)
      (rows_past x (p + 1) c (omega arith)) (exits_past xs (p + 1 + statement_size x) c (omega arith))
