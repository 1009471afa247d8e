-- The code and the rows of a statement move with its place, if its exits move alike.
use Rattle.std.proofs.Common.{◌≡◌, ℕ, zero, suc, ◌+◌, ◌<◌, List, [], ◌∷◌, ◌++◌, length, map, Some, refl, sym, ap, ◌∙◌}
use Rattle.std.proofs.Common.{subst, arith, slice_get}
use Rattle.std.proofs.lemmas.List.{map-append}
use Rattle.ls_code.specs.declared.code.HandlerRow.{HandlerRow}
use Rattle.ls_code.specs.declared.instruction.Instruction.{Instruction}
use Rattle.ls_code.specs.declared.instruction.Instruction.TheVariants as op
use Rattle.ls_lowered.specs.LoweredTree.{Statement, Block, SetLocal, SetField, AddField, SetItem, Evaluate, If, While}
use Rattle.ls_lowered.specs.LoweredTree.{Return, Try, Guarded, Throw, Leavable, Leave, Statements, Done, Then, Method}
use Rattle.ls_lowered.specs.LoweredTree.{File}
use Rattle.ls_emit.specs.Expressions.{size, code}
use Rattle.ls_emit.specs.Statements.{Targets, target_of, statement_size, exits_size, places, statement_code}
use Rattle.ls_emit.specs.Statements.{statements_code, exits_code, row_of, statement_rows, statements_rows}
use Rattle.ls_emit.specs.Statements.{exits_rows}
use Rattle.ls_emit.specs.Units.{moved, moved_row, method_code, method_rows}
use Rattle.ls_emit.specs.Emittable.{IsEmittableStatement, AreEmittableStatements}
use Rattle.ls_emit.proofs.Places.{HasAt}
use Rattle.ls_emit.proofs.StatementPlaces.{targets_within}
use Rattle.ls_emit.proofs.Moves.{join, cons, last, jump, jump_if_false, moves}

module _ (start : ℕ) where
  -- the targets are as much further on as the code
  abbrev pub Follow : Targets → Targets → Type 0
  Follow t t' = (n : ℕ) → n < length t → target_of t' n ≡ start + target_of t n

  none_follow : Follow [] []
  none_follow n l = absurd (let f : ⊥ = omega arith in f)

  places_follow : (xs : Statements) (t t' : Targets) (p q : ℕ) →
      q ≡ start + p →
      Follow t t' →
      Follow (places p xs ++ t) (places q xs ++ t')
  places_follow Done t t' p q e x zero l = e
  places_follow Done t t' p q e x (suc n) l = x n (omega arith)
  places_follow (Then a xs) t t' p q e x zero l = omega (arith, e)
  places_follow (Then a xs) t t' p q e x (suc n) l = places_follow xs t t' (p + 1 + statement_size a)
      (q + 1 + statement_size a) (omega arith) x n (omega arith)

  module _ (file : File) (wide : ℕ) where
    mutual
      pub statement_moves : (s : Statement) (t t' : Targets) (p q : ℕ) →
          q ≡ start + p →
          Follow t t' →
          IsEmittableStatement file wide (length t) s →
          map (moved start) (statement_code t p s) ≡ statement_code t' q s
      statement_moves (Block ss) t t' p q e x fits = statements_move ss t t' p q e x fits
      statement_moves (SetLocal n a) t t' p q e x fits = last start (code p a) (code q a) (op.Store n)
          (moves start a p q e) refl
      statement_moves (SetField a f b) t t' p q e x fits = last start (code p a ++ code (p + size a) b)
          (code q a ++ code (q + size a) b) (op.PutField (f + 1))
          (join start (code p a) (code q a) (code (p + size a) b) (code (q + size a) b) (moves start a p q e)
          (moves start b (p + size a) (q + size a) (omega arith))) refl
      statement_moves (AddField a f b) t t' p q e x fits =
          let pb = p + size a + 2 in
          let qb = q + size a + 2 in
          join start (code p a ++ op.Dup ∷ op.GetField (f + 1) ∷ code pb b)
          (code q a ++ op.Dup ∷ op.GetField (f + 1) ∷ code qb b) (op.Add ∷ op.PutField (f + 1) ∷ [])
          (op.Add ∷ op.PutField (f + 1) ∷ [])
          (join start (code p a) (code q a) (op.Dup ∷ op.GetField (f + 1) ∷ code pb b)
          (op.Dup ∷ op.GetField (f + 1) ∷ code qb b) (moves start a p q e)
          (cons start op.Dup op.Dup (op.GetField (f + 1) ∷ code pb b) (op.GetField (f + 1) ∷ code qb b) refl
          (cons start (op.GetField (f + 1)) (op.GetField (f + 1)) (code pb b) (code qb b) refl
          (moves start b pb qb (omega arith))))) refl
      statement_moves (SetItem a i b) t t' p q e x fits =
          last start (code p a ++ code (p + size a) i ++ code (p + size a + size i) b)
          (code q a ++ code (q + size a) i ++ code (q + size a + size i) b) op.PutItem
          (join start (code p a ++ code (p + size a) i) (code q a ++ code (q + size a) i) (code (p + size a + size i) b)
          (code (q + size a + size i) b)
          (join start (code p a) (code q a) (code (p + size a) i) (code (q + size a) i) (moves start a p q e)
          (moves start i (p + size a) (q + size a) (omega arith)))
          (moves start b (p + size a + size i) (q + size a + size i) (omega arith))) refl
      statement_moves (Evaluate a) t t' p q e x fits = last start (code p a) (code q a) op.Pop (moves start a p q e)
          refl
      statement_moves (If a b d) t t' p q e x fits =
          let pb = p + size a + 1 in
          let qb = q + size a + 1 in
          let pd = p + size a + statement_size b + 2 in
          let qd = q + size a + statement_size b + 2 in
          let p2 = p + size a + statement_size b + statement_size d + 2 in
          let q2 = q + size a + statement_size b + statement_size d + 2 in
          join start (code p a ++ op.JumpIfFalse pd ∷ statement_code t pb b)
          (code q a ++ op.JumpIfFalse qd ∷ statement_code t' qb b) (op.Jump p2 ∷ statement_code t pd d)
          (op.Jump q2 ∷ statement_code t' qd d)
          (join start (code p a) (code q a) (op.JumpIfFalse pd ∷ statement_code t pb b)
          (op.JumpIfFalse qd ∷ statement_code t' qb b) (moves start a p q e)
          (cons start (op.JumpIfFalse pd) (op.JumpIfFalse qd) (statement_code t pb b) (statement_code t' qb b)
          (jump_if_false start pd qd (omega arith)) (statement_moves b t t' pb qb (omega arith) x fits.1)))
          (cons start (op.Jump p2) (op.Jump q2) (statement_code t pd d) (statement_code t' qd d)
          (jump start p2 q2 (omega arith)) (statement_moves d t t' pd qd (omega arith) x fits.2))
      statement_moves (While a b) t t' p q e x fits =
          let pb = p + size a + 1 in
          let qb = q + size a + 1 in
          let stop = p + size a + statement_size b + 2 in
          let stop' = q + size a + statement_size b + 2 in
          join start (code p a ++ op.JumpIfFalse stop ∷ statement_code t pb b)
          (code q a ++ op.JumpIfFalse stop' ∷ statement_code t' qb b) (op.Turn p ∷ []) (op.Turn q ∷ [])
          (join start (code p a) (code q a) (op.JumpIfFalse stop ∷ statement_code t pb b)
          (op.JumpIfFalse stop' ∷ statement_code t' qb b) (moves start a p q e)
          (cons start (op.JumpIfFalse stop) (op.JumpIfFalse stop') (statement_code t pb b) (statement_code t' qb b)
          (jump_if_false start stop stop' (omega arith)) (statement_moves b t t' pb qb (omega arith) x fits.1)))
          (cons start (op.Turn p) (op.Turn q) [] [] (ap op.Turn (sym e)) refl)
      statement_moves (Return a) t t' p q e x fits = last start (code p a) (code q a) op.LeaveWith (moves start a p q e)
          refl
      statement_moves (Try a b) t t' p q e x fits = refl
      statement_moves (Guarded a n b) t t' p q e x fits =
          let p2 = p + statement_size a + statement_size b + 2 in
          let q2 = q + statement_size a + statement_size b + 2 in
          let pb = p + statement_size a + 2 in
          let qb = q + statement_size a + 2 in
          join start (statement_code t p a) (statement_code t' q a) (op.Jump p2 ∷ op.Store n ∷ statement_code t pb b)
          (op.Jump q2 ∷ op.Store n ∷ statement_code t' qb b) (statement_moves a t t' p q e x fits.1)
          (cons start (op.Jump p2) (op.Jump q2) (op.Store n ∷ statement_code t pb b)
          (op.Store n ∷ statement_code t' qb b) (jump start p2 q2 (omega arith))
          (cons start (op.Store n) (op.Store n) (statement_code t pb b) (statement_code t' qb b) refl
          (statement_moves b t t' pb qb (omega arith) x fits.2)))
      statement_moves (Throw n) t t' p q e x fits = refl
      statement_moves (Leavable a xs) t t' p q e x fits =
          let pe = p + statement_size a in
          let qe = q + statement_size a in
          let stop = p + statement_size a + exits_size xs in
          let stop' = q + statement_size a + exits_size xs in
          let u = places pe xs ++ t in
          let u' = places qe xs ++ t' in
          let fits_a : IsEmittableStatement file wide (length u) a = subst (λ n. IsEmittableStatement file wide n a)
          (sym (targets_within xs t pe)) fits.0 in
          join start (statement_code u p a) (statement_code u' q a) (exits_code t stop pe xs)
          (exits_code t' stop' qe xs)
          (statement_moves a u u' p q e (places_follow xs t t' pe qe (omega arith) x) fits_a)
          (exits_move xs t t' stop stop' pe qe (omega arith) (omega arith) x fits.1)
      statement_moves (Leave n) t t' p q e x fits = cons start (op.Jump (target_of t n)) (op.Jump (target_of t' n)) []
          [] (jump start (target_of t n) (target_of t' n) (x n fits)) refl

      pub statements_move : (ss : Statements) (t t' : Targets) (p q : ℕ) →
          q ≡ start + p →
          Follow t t' →
          AreEmittableStatements file wide (length t) ss →
          map (moved start) (statements_code t p ss) ≡ statements_code t' q ss
      statements_move Done t t' p q e x fits = refl
      statements_move (Then s ss) t t' p q e x fits =
          join start (statement_code t p s) (statement_code t' q s) (statements_code t (p + statement_size s) ss)
          (statements_code t' (q + statement_size s) ss) (statement_moves s t t' p q e x fits.0)
          (statements_move ss t t' (p + statement_size s) (q + statement_size s) (omega arith) x fits.1)

      exits_move : (xs : Statements) (t t' : Targets) (stop stop' p q : ℕ) →
          stop' ≡ start + stop →
          q ≡ start + p →
          Follow t t' →
          AreEmittableStatements file wide (length t) xs →
          map (moved start) (exits_code t stop p xs) ≡ exits_code t' stop' q xs
      exits_move Done t t' stop stop' p q d e x fits = refl
      exits_move (Then a xs) t t' stop stop' p q d e x fits =
          let p2 = p + 1 + statement_size a in
          let q2 = q + 1 + statement_size a in
          join start (op.Jump stop ∷ statement_code t (p + 1) a) (op.Jump stop' ∷ statement_code t' (q + 1) a)
          (exits_code t stop p2 xs) (exits_code t' stop' q2 xs)
          (cons start (op.Jump stop) (op.Jump stop') (statement_code t (p + 1) a) (statement_code t' (q + 1) a)
          (jump start stop stop' d) (statement_moves a t t' (p + 1) (q + 1) (omega arith) x fits.0))
          (exits_move xs t t' stop stop' p2 q2 d (omega arith) x fits.1)

    -- the code of a method moves with its place
    pub method_moves : (m : Method) →
        IsEmittableStatement file wide 0 m.body →
        map (moved start) (method_code 0 m) ≡ method_code start m
    method_moves m fits =
        join start (statement_code [] 0 m.body) (statement_code [] start m.body) (op.Push 0 ∷ op.LeaveWith ∷ [])
        (op.Push 0 ∷ op.LeaveWith ∷ [])
        (statement_moves m.body [] [] 0 start (omega arith) none_follow fits) refl

  row_join : (a a' b b' : List HandlerRow) →
      map (moved_row start) a ≡ a' →
      map (moved_row start) b ≡ b' →
      map (moved_row start) (a ++ b) ≡ a' ++ b'
  row_join a a' b b' x y = map-append (moved_row start) a b ∙ ap (λ l. l ++ map (moved_row start) b) x ∙
      ap (λ l. a' ++ l) y

  abbrev row : ℕ → ℕ → ℕ → HandlerRow
  row from to handler = record { from = from; to = to; handler = handler; depth = 0 }

  row_moves : (p q n : ℕ) → q ≡ start + p → moved_row start (row_of p n) ≡ row_of q n
  row_moves p q n e =
      let a : start + p ≡ q = omega arith in
      let b : start + (p + n) ≡ q + n = omega arith in
      let d : start + (p + n + 1) ≡ q + n + 1 = omega arith in
      ap (λ x. row x (start + (p + n)) (start + (p + n + 1))) a ∙ ap (λ x. row q x (start + (p + n + 1))) b ∙
      ap (λ x. row q (q + n) x) d

  mutual
    pub rows_move : (s : Statement) (p q : ℕ) →
        q ≡ start + p →
        map (moved_row start) (statement_rows p s) ≡ statement_rows q s
    rows_move (Block ss) p q e = all_rows_move ss p q e
    rows_move (SetLocal n a) p q e = refl
    rows_move (SetField a f b) p q e = refl
    rows_move (AddField a f b) p q e = refl
    rows_move (SetItem a i b) p q e = refl
    rows_move (Evaluate a) p q e = refl
    rows_move (If a b d) p q e = row_join (statement_rows (p + size a + 1) b) (statement_rows (q + size a + 1) b)
        (statement_rows (p + size a + statement_size b + 2) d) (statement_rows (q + size a + statement_size b + 2) d)
        (rows_move b (p + size a + 1) (q + size a + 1) (omega arith))
        (rows_move d (p + size a + statement_size b + 2) (q + size a + statement_size b + 2) (omega arith))
    rows_move (While a b) p q e = rows_move b (p + size a + 1) (q + size a + 1) (omega arith)
    rows_move (Return a) p q e = refl
    rows_move (Try a b) p q e = refl
    rows_move (Guarded a n b) p q e =
        let pb = p + statement_size a + 2 in
        let qb = q + statement_size a + 2 in
        row_join (statement_rows p a) (statement_rows q a) (row_of p (statement_size a) ∷ statement_rows pb b)
        (row_of q (statement_size a) ∷ statement_rows qb b) (rows_move a p q e)
        (ap (λ r. r ∷ map (moved_row start) (statement_rows pb b)) (row_moves p q (statement_size a) e) ∙
        ap (λ l. row_of q (statement_size a) ∷ l) (rows_move b pb qb (omega arith)))
    rows_move (Throw n) p q e = refl
    rows_move (Leavable a xs) p q e = row_join (statement_rows p a) (statement_rows q a)
        (exits_rows (p + statement_size a) xs) (exits_rows (q + statement_size a) xs) (rows_move a p q e)
        (exit_rows_move xs (p + statement_size a) (q + statement_size a) (omega arith))
    rows_move (Leave n) p q e = refl

    pub all_rows_move : (ss : Statements) (p q : ℕ) →
        q ≡ start + p →
        map (moved_row start) (statements_rows p ss) ≡ statements_rows q ss
    all_rows_move Done p q e = refl
    all_rows_move (Then s ss) p q e = row_join (statement_rows p s) (statement_rows q s)
        (statements_rows (p + statement_size s) ss) (statements_rows (q + statement_size s) ss) (rows_move s p q e)
        (all_rows_move ss (p + statement_size s) (q + statement_size s) (omega arith))

    exit_rows_move : (xs : Statements) (p q : ℕ) →
        q ≡ start + p →
        map (moved_row start) (exits_rows p xs) ≡ exits_rows q xs
    exit_rows_move Done p q e = refl
    exit_rows_move (Then a xs) p q e = row_join (statement_rows (p + 1) a) (statement_rows (q + 1) a)
        (exits_rows (p + 1 + statement_size a) xs) (exits_rows (q + 1 + statement_size a) xs)
        (rows_move a (p + 1) (q + 1) (omega arith)) (exit_rows_move xs (p + 1 + statement_size a)
        (q + 1 + statement_size a) (omega arith))

  -- the rows of a method move with its place
  pub method_rows_move : (m : Method) → map (moved_row start) (method_rows 0 m) ≡ method_rows start m
  method_rows_move m = rows_move m.body 0 start (omega arith)

  -- instructions that are in the whole code are there in a row
  pub stand_at : (whole xs : List Instruction) (k : ℕ) →
      ((n : ℕ) (i : Instruction) → slice_get xs n ≡ Some i → slice_get whole (k + n) ≡ Some (moved start i)) →
      HasAt whole k (map (moved start) xs)
  stand_at whole [] k f = tt
  stand_at whole (i ∷ xs) k f =
      let e : k + 0 ≡ k = omega arith in (
        subst (λ m. slice_get whole m ≡ Some (moved start i)) e (f 0 i refl),
        stand_at whole xs (k + 1) (λ n j x. let d : k + suc n ≡ k + 1 + n = omega arith in
            subst (λ m. slice_get whole m ≡ Some (moved start j)) d (f (suc n) j x)),
      )
