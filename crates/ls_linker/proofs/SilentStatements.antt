-- Each silent instruction of a unit leads to a later place, except the jump back to the SEE of a lock() that waits.
-- None of its rows leads back.
use Rattle.std.proofs.Common.{◌≡◌, ℕ, zero, suc, ◌+◌, ◌<◌, ◌≤◌, List, [], ◌∷◌, ◌++◌, length}
use Rattle.std.proofs.Common.{sym, subst, arith, slice_get, inl}
use Rattle.ls_code.specs.declared.code.HandlerRow.{HandlerRow}
use Rattle.ls_code.specs.declared.instruction.Instruction.TheVariants as op
use Rattle.ls_lowered.specs.LoweredTree.{Statement, Block, SetLocal, SetField, AddField, SetItem, Evaluate, If, While}
use Rattle.ls_lowered.specs.LoweredTree.{Return, Try, Guarded, Throw, Leavable, Leave, Statements, Done, Then, Method}
use Rattle.ls_lowered.specs.LoweredTree.{File}
use Rattle.ls_emit.specs.Expressions.{size, code}
use Rattle.ls_emit.specs.Statements.{Targets, place_by, target_of, places, statement_size, statements_size}
use Rattle.ls_emit.specs.Statements.{exits_size, statement_code, statements_code, exits_code, row_of}
use Rattle.ls_emit.specs.Statements.{statement_rows, statements_rows, exits_rows}
use Rattle.ls_emit.specs.Units.{method_size, method_code}
use Rattle.ls_emit.specs.Emittable.{IsEmittableStatement, AreEmittableStatements, IsEmittableMethod}
use Rattle.ls_emit.proofs.Places.{size_is}
use Rattle.ls_emit.proofs.StatementPlaces.{statement_size_is, targets_within}
use Rattle.ls_linker.proofs.Silent.{AllAt, on, at, two_at, three_at, four_at, one_more}
use Rattle.ls_linker.proofs.SilentExpressions.{ahead}

module _ (n : ℕ) where
  -- the places to which a statement may jump come after it
  abbrev Beyond : ℕ → Targets → Type 0
  Beyond q [] = Unit {0}
  Beyond q (x ∷ t) = ((q ≤ x) × (x < n)) × Beyond q t

  sooner : (q q' : ℕ) (t : Targets) → q' ≤ q → Beyond q t → Beyond q' t
  sooner q q' [] l h = tt
  sooner q q' (x ∷ t) l h = ((omega (arith, h.0.0), h.0.1), sooner q q' t l h.1)

  beyond_append : (q : ℕ) (t u : Targets) → Beyond q t → Beyond q u → Beyond q (t ++ u)
  beyond_append q [] u h g = g
  beyond_append q (x ∷ t) u h g = (h.0, beyond_append q t u h.1 g)

  target_there : (q k : ℕ) (t : Targets) →
      k < length t →
      Beyond q t →
      (q ≤ place_by (slice_get t k)) × (place_by (slice_get t k) < n)
  target_there q k [] l h = absurd (let no : ⊥ = omega (arith, l) in no)
  target_there q zero (x ∷ t) l h = h.0
  target_there q (suc k) (x ∷ t) l h = target_there q k t (omega (arith, l)) h.1

  -- exits come after the body that is left, and so does their end
  places_beyond : (xs : Statements) (p q : ℕ) → q ≤ p → p + exits_size xs < n → Beyond q (places p xs)
  places_beyond Done p q le l = ((le, omega (arith, l)), tt)
  places_beyond (Then x xs) p q le l = (
    (omega (arith, le), omega (arith, l)),
    places_beyond xs (p + 1 + statement_size x) q (omega (arith, le)) (omega (arith, l)),
  )

  leads : (p x : ℕ) → (p + 1 ≤ x) × (x < n) → (p < x) × (x < n)
  leads p x h = (omega (arith, h.0), h.1)

  module _ (ms : File) (wide : ℕ) where
    mutual
      statement_ahead : (s : Statement) (t : Targets) (p : ℕ) →
          IsEmittableStatement ms wide (length t) s →
          Beyond (p + statement_size s) t →
          p + statement_size s < n →
          AllAt n p (statement_code t p s)
      statement_ahead (Block ss) t p fit h l = statements_ahead ss t p fit h l
      statement_ahead (SetLocal k e) t p fit h l = two_at n p (size e) (code p e) (op.Store k ∷ []) (size_is e p)
          (ahead n e p (omega arith)) (omega arith, tt)
      statement_ahead (SetField e f a) t p fit h l =
          three_at n p (size e) (size a) (code p e) (code (p + size e) a) (op.PutField (f + 1) ∷ []) (size_is e p)
          (size_is a (p + size e)) (ahead n e p (omega arith)) (ahead n a (p + size e) (omega arith)) (omega arith, tt)
      statement_ahead (AddField e f a) t p fit h l =
          let pa = p + size e + 2 in
          three_at n p (size e) (size a + 1 + 1) (code p e) (op.Dup ∷ op.GetField (f + 1) ∷ code pa a)
          (op.Add ∷ op.PutField (f + 1) ∷ []) (size_is e p)
          (one_more op.Dup (op.GetField (f + 1) ∷ code pa a) (size a + 1)
          (one_more (op.GetField (f + 1)) (code pa a) (size a) (size_is a pa)))
          (ahead n e p (omega arith)) (
            omega arith,
            (
              omega arith,
              on n _ _ (p + size e + 1 + 1) (code pa a)
                  (at n pa (p + size e + 1 + 1) (code pa a) (omega arith) (ahead n a pa (omega arith))),
            ),
          )
          (omega arith, (omega arith, tt))
      statement_ahead (SetItem a i e) t p fit h l =
          four_at n p (size a) (size i) (size e) (code p a) (code (p + size a) i) (code (p + size a + size i) e)
          (op.PutItem ∷ []) (size_is a p) (size_is i (p + size a)) (size_is e (p + size a + size i))
          (ahead n a p (omega arith)) (ahead n i (p + size a) (omega arith))
          (ahead n e (p + size a + size i) (omega arith))
          (omega arith, tt)
      statement_ahead (Evaluate e) t p fit h l = two_at n p (size e) (code p e) (op.Pop ∷ []) (size_is e p)
          (ahead n e p (omega arith)) (omega arith, tt)
      statement_ahead (If e a b) t p fit h l =
          three_at n p (size e) (statement_size a + 1) (code p e)
          (op.JumpIfFalse (p + size e + statement_size a + 2) ∷ statement_code t (p + size e + 1) a)
          (op.Jump (p + size e + statement_size a + statement_size b + 2) ∷
          statement_code t (p + size e + statement_size a + 2) b) (size_is e p)
          (one_more (op.JumpIfFalse (p + size e + statement_size a + 2)) (statement_code t (p + size e + 1) a)
          (statement_size a) (statement_size_is a t (p + size e + 1)))
          (ahead n e p (omega arith)) (
            (omega arith, inl (omega arith, omega arith)),
            on n _ _ (p + size e + 1) (statement_code t (p + size e + 1) a)
                (statement_ahead a t (p + size e + 1) fit.1 (sooner (p + statement_size (If e a b))
                (p + size e + 1 + statement_size a) t (omega arith) h) (omega arith)),
          ) (
            (omega arith, omega arith),
            on n _ _ (p + size e + (statement_size a + 1) + 1) (statement_code t (p + size e + statement_size a + 2) b)
                (at n (p + size e + statement_size a + 2) (p + size e + (statement_size a + 1) + 1)
                (statement_code t (p + size e + statement_size a + 2) b) (omega arith)
                (statement_ahead b t (p + size e + statement_size a + 2) fit.2
                (sooner (p + statement_size (If e a b)) (p + size e + statement_size a + 2 + statement_size b) t
                (omega arith) h) (omega arith))),
          )
      statement_ahead (While e s) t p fit h l =
          three_at n p (size e) (statement_size s + 1) (code p e)
          (op.JumpIfFalse (p + size e + statement_size s + 2) ∷ statement_code t (p + size e + 1) s)
          (op.Turn p ∷ []) (size_is e p)
          (one_more (op.JumpIfFalse (p + size e + statement_size s + 2)) (statement_code t (p + size e + 1) s)
          (statement_size s) (statement_size_is s t (p + size e + 1)))
          (ahead n e p (omega arith)) (
            (omega arith, inl (omega arith, omega arith)),
            on n _ _ (p + size e + 1) (statement_code t (p + size e + 1) s)
                (statement_ahead s t (p + size e + 1) fit.1 (sooner (p + statement_size (While e s))
                (p + size e + 1 + statement_size s) t (omega arith) h) (omega arith)),
          )
          (tt, tt)
      statement_ahead (Return e) t p fit h l = two_at n p (size e) (code p e) (op.LeaveWith ∷ []) (size_is e p)
          (ahead n e p (omega arith)) (tt, tt)
      statement_ahead (Try b f) t p fit h l = tt
      statement_ahead (Guarded b k x) t p fit h l =
          two_at n p (statement_size b) (statement_code t p b)
          (op.Jump (p + statement_size b + statement_size x + 2) ∷ op.Store k ∷
          statement_code t (p + statement_size b + 2) x) (statement_size_is b t p)
          (statement_ahead b t p fit.1 (sooner (p + statement_size (Guarded b k x)) (p + statement_size b) t
          (omega arith) h) (omega arith)) (
            (omega arith, omega arith),
            (
              omega arith,
              on n _ _ (p + statement_size b + 1 + 1) (statement_code t (p + statement_size b + 2) x)
                  (at n (p + statement_size b + 2) (p + statement_size b + 1 + 1)
                  (statement_code t (p + statement_size b + 2) x) (omega arith)
                  (statement_ahead x t (p + statement_size b + 2) fit.2
                  (sooner (p + statement_size (Guarded b k x)) (p + statement_size b + 2 + statement_size x) t
                  (omega arith) h) (omega arith))),
            ),
          )
      statement_ahead (Throw k) t p fit h l = (omega arith, (tt, tt))
      statement_ahead (Leavable b xs) t p fit h l =
          let q : ℕ = p + statement_size b in
          let inner : Targets = places q xs ++ t in
          two_at n p (statement_size b) (statement_code inner p b) (exits_code t (q + exits_size xs) q xs)
          (statement_size_is b inner p)
          (statement_ahead b inner p (subst (λ k. IsEmittableStatement ms wide k b) (sym (targets_within xs t q)) fit.0)
          (beyond_append q (places q xs) t (places_beyond xs q q (omega arith) (omega arith))
          (sooner (p + statement_size (Leavable b xs)) q t (omega arith) h)) (omega arith))
          (exits_ahead xs t (q + exits_size xs) q fit.1 (sooner (p + statement_size (Leavable b xs)) (q + exits_size xs)
          t (omega arith) h) (omega arith) (omega arith))
      statement_ahead (Leave k) t p fit h l = (leads p (target_of t k) (target_there (p + 1) k t fit h), tt)

      statements_ahead : (ss : Statements) (t : Targets) (p : ℕ) →
          AreEmittableStatements ms wide (length t) ss →
          Beyond (p + statements_size ss) t →
          p + statements_size ss < n →
          AllAt n p (statements_code t p ss)
      statements_ahead Done t p fit h l = tt
      statements_ahead (Then s ss) t p fit h l =
          two_at n p (statement_size s) (statement_code t p s) (statements_code t (p + statement_size s) ss)
          (statement_size_is s t p)
          (statement_ahead s t p fit.0 (sooner (p + statements_size (Then s ss)) (p + statement_size s) t (omega arith)
          h) (omega arith))
          (statements_ahead ss t (p + statement_size s) fit.1
          (sooner (p + statements_size (Then s ss)) (p + statement_size s + statements_size ss) t (omega arith) h)
          (omega arith))

      exits_ahead : (xs : Statements) (t : Targets) (end p : ℕ) →
          AreEmittableStatements ms wide (length t) xs →
          Beyond (p + exits_size xs) t →
          p + exits_size xs ≤ end →
          end < n →
          AllAt n p (exits_code t end p xs)
      exits_ahead Done t end p fit h le l = tt
      exits_ahead (Then x xs) t end p fit h le l =
          two_at n p (statement_size x + 1) (op.Jump end ∷ statement_code t (p + 1) x)
          (exits_code t end (p + 1 + statement_size x) xs)
          (one_more (op.Jump end) (statement_code t (p + 1) x) (statement_size x) (statement_size_is x t (p + 1))) (
            (omega arith, l),
            on n _ _ (p + 1) (statement_code t (p + 1) x)
                (statement_ahead x t (p + 1) fit.0 (sooner (p + exits_size (Then x xs)) (p + 1 + statement_size x) t
                (omega arith) h) (omega arith)),
          )
          (at n (p + 1 + statement_size x) (p + (statement_size x + 1)) (exits_code t end (p + 1 + statement_size x) xs)
          (omega arith)
          (exits_ahead xs t end (p + 1 + statement_size x) fit.1
          (sooner (p + exits_size (Then x xs)) (p + 1 + statement_size x + exits_size xs) t (omega arith) h)
          (omega arith) l))

  -- a row leads to a place after what it guards
  abbrev pub RowsLead : List HandlerRow → Type 0
  RowsLead [] = Unit {0}
  RowsLead (r ∷ rs) = ((r.to ≤ r.handler) × (r.handler < n)) × RowsLead rs

  rows_append : (xs ys : List HandlerRow) → RowsLead xs → RowsLead ys → RowsLead (xs ++ ys)
  rows_append [] ys h g = g
  rows_append (x ∷ xs) ys h g = (h.0, rows_append xs ys h.1 g)

  mutual
    -- the rows of a statement lead to later places
    pub rows_lead : (s : Statement) (p : ℕ) → p + statement_size s < n → RowsLead (statement_rows p s)
    rows_lead (Block ss) p l = all_rows_lead ss p l
    rows_lead (SetLocal k e) p l = tt
    rows_lead (SetField e f a) p l = tt
    rows_lead (AddField e f a) p l = tt
    rows_lead (SetItem a i e) p l = tt
    rows_lead (Evaluate e) p l = tt
    rows_lead (If e a b) p l = rows_append (statement_rows (p + size e + 1) a)
        (statement_rows (p + size e + statement_size a + 2) b) (rows_lead a (p + size e + 1) (omega arith))
        (rows_lead b (p + size e + statement_size a + 2) (omega arith))
    rows_lead (While e s) p l = rows_lead s (p + size e + 1) (omega arith)
    rows_lead (Return e) p l = tt
    rows_lead (Try b f) p l = tt
    rows_lead (Guarded b k h) p l = rows_append (statement_rows p b)
        (row_of p (statement_size b) ∷ statement_rows (p + statement_size b + 2) h) (rows_lead b p (omega arith))
        ((omega arith, omega arith), rows_lead h (p + statement_size b + 2) (omega arith))
    rows_lead (Throw k) p l = tt
    rows_lead (Leavable b xs) p l = rows_append (statement_rows p b) (exits_rows (p + statement_size b) xs)
        (rows_lead b p (omega arith)) (exit_rows_lead xs (p + statement_size b) (omega arith))
    rows_lead (Leave k) p l = tt

    all_rows_lead : (ss : Statements) (p : ℕ) → p + statements_size ss < n → RowsLead (statements_rows p ss)
    all_rows_lead Done p l = tt
    all_rows_lead (Then s ss) p l = rows_append (statement_rows p s) (statements_rows (p + statement_size s) ss)
        (rows_lead s p (omega arith)) (all_rows_lead ss (p + statement_size s) (omega arith))

    exit_rows_lead : (xs : Statements) (p : ℕ) → p + exits_size xs < n → RowsLead (exits_rows p xs)
    exit_rows_lead Done p l = tt
    exit_rows_lead (Then x xs) p l = rows_append (statement_rows (p + 1) x) (exits_rows (p + 1 + statement_size x) xs)
        (rows_lead x (p + 1) (omega arith)) (exit_rows_lead xs (p + 1 + statement_size x) (omega arith))

  -- a method's code that ends at the limit
  pub method_ahead : (ms : File) (g : Method) (start : ℕ) →
      IsEmittableMethod ms g →
      start + method_size g ≡ n →
      AllAt n start (method_code start g)
  method_ahead ms g start fits e =
      two_at n start (statement_size g.body) (statement_code [] start g.body) (op.Push 0 ∷ op.LeaveWith ∷ [])
      (statement_size_is g.body [] start)
      (statement_ahead ms (g.arguments + g.locals) g.body [] start fits.body tt (omega (arith, e)))
      (omega (arith, e), (tt, tt))
