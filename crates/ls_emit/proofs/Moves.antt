-- The code of a method moves with its place.
use Rattle.std.proofs.Common.{◌≡◌, ℕ, ◌+◌, List, [], ◌∷◌, ◌++◌, map, refl, sym, ap, ◌∙◌, arith}
use Rattle.std.proofs.lemmas.List.{map-append}
use Rattle.ls_code.specs.declared.instruction.Instruction.{Instruction}
use Rattle.ls_code.specs.declared.instruction.Instruction.TheVariants as op
use Rattle.ls_lowered.specs.declared.tree.UnaryOperator.{UnaryOperator}
use Rattle.ls_lowered.specs.declared.tree.UnaryOperator.TheVariants.{Negate, Not, ReferenceOf, MarkOf}
use Rattle.ls_lowered.specs.declared.tree.BinaryOperator.{BinaryOperator}
use Rattle.ls_lowered.specs.declared.tree.BinaryOperator.TheVariants as binary
use Rattle.ls_lowered.specs.declared.tree.LockOperation.{LockOperation}
use Rattle.ls_lowered.specs.declared.tree.LockOperation.TheVariants.{Lock, Unlock, TryLock, IsHeld, LockMonitor}
use Rattle.ls_lowered.specs.declared.tree.LockOperation.TheVariants.{UnlockMonitor}
use Rattle.ls_lowered.specs.LoweredTree.{Expression, Word, Local, Unary, Binary, And, Or, Hold, Keep, After, Field}
use Rattle.ls_lowered.specs.LoweredTree.{Item, SetFirst, ReadPair, SetPair, SwapPair, AttemptMark, OnLock, Call}
use Rattle.ls_lowered.specs.LoweredTree.{MakeObject, MakeLock, MakeMarkable, MakeArray, Expressions, End, More}
use Rattle.ls_emit.specs.LockCode.{lock_code}
use Rattle.ls_emit.specs.Expressions.{unary_code, binary_code, size, code, all_code}
use Rattle.ls_emit.specs.Units.{moved}

module _ (start : ℕ) where
  -- code that is moved part by part
  pub join : (a a' b b' : List Instruction) →
      map (moved start) a ≡ a' →
      map (moved start) b ≡ b' →
      map (moved start) (a ++ b) ≡ a' ++ b'
  join a a' b b' x y = map-append (moved start) a b ∙ ap (λ l. l ++ map (moved start) b) x ∙ ap (λ l. a' ++ l) y

  -- code that is moved instruction by instruction
  pub cons : (i i' : Instruction) (a a' : List Instruction) →
      moved start i ≡ i' →
      map (moved start) a ≡ a' →
      map (moved start) (i ∷ a) ≡ i' ∷ a'
  cons i i' a a' x y = ap (λ j. j ∷ map (moved start) a) x ∙ ap (λ l. i' ∷ l) y

  -- an instruction at the end
  pub last : (a a' : List Instruction) (i : Instruction) →
      map (moved start) a ≡ a' →
      moved start i ≡ i →
      map (moved start) (a ++ i ∷ []) ≡ a' ++ i ∷ []
  last a a' i x y = join a a' (i ∷ []) (i ∷ []) x (cons i i [] [] y refl)

  -- a jump that is moved
  pub jump : (x y : ℕ) → y ≡ start + x → moved start (op.Jump x) ≡ op.Jump y
  jump x y e = ap op.Jump (sym e)

  -- a conditional jump that is moved
  pub jump_if_false : (x y : ℕ) → y ≡ start + x → moved start (op.JumpIfFalse x) ≡ op.JumpIfFalse y
  jump_if_false x y e = ap op.JumpIfFalse (sym e)

  unary_stays : (o : UnaryOperator) → moved start (unary_code o) ≡ unary_code o
  unary_stays Negate = refl
  unary_stays Not = refl
  unary_stays ReferenceOf = refl
  unary_stays MarkOf = refl

  binary_stays : (o : BinaryOperator) → moved start (binary_code o) ≡ binary_code o
  binary_stays binary.Add = refl
  binary_stays binary.Subtract = refl
  binary_stays binary.Multiply = refl
  binary_stays binary.Divide = refl
  binary_stays binary.Remainder = refl
  binary_stays binary.Less = refl
  binary_stays binary.LessEqual = refl
  binary_stays binary.Greater = refl
  binary_stays binary.GreaterEqual = refl
  binary_stays binary.Equal = refl
  binary_stays binary.NotEqual = refl
  binary_stays binary.Pack = refl

  lock_stays : (o : LockOperation) (p q : ℕ) → q ≡ start + p → map (moved start) (lock_code p o) ≡ lock_code q o
  lock_stays Lock p q e = cons (op.See 1) _ (op.Take 1 ∷ op.JumpIfFalse p ∷ op.Pop ∷ op.Push 0 ∷ []) _ refl
      (cons (op.Take 1) _ (op.JumpIfFalse p ∷ op.Pop ∷ op.Push 0 ∷ []) _ refl
      (cons (op.JumpIfFalse p) _ (op.Pop ∷ op.Push 0 ∷ []) _ (jump_if_false p q e) refl))
  lock_stays Unlock p q e = refl
  lock_stays TryLock p q e = refl
  lock_stays IsHeld p q e = refl
  lock_stays LockMonitor p q e = cons (op.See 4) _ (op.Take 4 ∷ op.JumpIfFalse p ∷ op.Pop ∷ op.Push 0 ∷ []) _ refl
      (cons (op.Take 4) _ (op.JumpIfFalse p ∷ op.Pop ∷ op.Push 0 ∷ []) _ refl
      (cons (op.JumpIfFalse p) _ (op.Pop ∷ op.Push 0 ∷ []) _ (jump_if_false p q e) refl))
  lock_stays UnlockMonitor p q e = refl

  mutual
    -- the code of an expression moves with its place
    pub moves : (e : Expression) (p q : ℕ) → q ≡ start + p → map (moved start) (code p e) ≡ code q e
    moves (Word w) p q x = refl
    moves (Local n) p q x = refl
    moves (Unary o e) p q x = last (code p e) (code q e) (unary_code o) (moves e p q x) (unary_stays o)
    moves (Binary o a b) p q x = last (code p a ++ code (p + size a) b) (code q a ++ code (q + size a) b)
        (binary_code o) (join (code p a) (code q a) (code (p + size a) b) (code (q + size a) b) (moves a p q x)
        (moves b (p + size a) (q + size a) (omega arith))) (binary_stays o)
    moves (And a b) p q x =
        join (code p a ++ op.JumpIfFalse (p + size a + size b + 2) ∷ code (p + size a + 1) b)
        (code q a ++ op.JumpIfFalse (q + size a + size b + 2) ∷ code (q + size a + 1) b)
        (op.Jump (p + size a + size b + 3) ∷ op.Push 0 ∷ []) (op.Jump (q + size a + size b + 3) ∷ op.Push 0 ∷ [])
        (join (code p a) (code q a) (op.JumpIfFalse (p + size a + size b + 2) ∷ code (p + size a + 1) b)
        (op.JumpIfFalse (q + size a + size b + 2) ∷ code (q + size a + 1) b) (moves a p q x)
        (cons (op.JumpIfFalse (p + size a + size b + 2)) (op.JumpIfFalse (q + size a + size b + 2))
        (code (p + size a + 1) b) (code (q + size a + 1) b)
        (jump_if_false (p + size a + size b + 2) (q + size a + size b + 2) (omega arith))
        (moves b (p + size a + 1) (q + size a + 1) (omega arith))))
        (cons (op.Jump (p + size a + size b + 3)) (op.Jump (q + size a + size b + 3)) (op.Push 0 ∷ []) (op.Push 0 ∷ [])
        (jump (p + size a + size b + 3) (q + size a + size b + 3) (omega arith)) refl)
    moves (Or a b) p q x =
        join (code p a) (code q a) (op.JumpIfFalse (p + size a + 3) ∷ op.Push 1 ∷ op.Jump (p + size a + size b + 3) ∷
        code (p + size a + 3) b) (op.JumpIfFalse (q + size a + 3) ∷ op.Push 1 ∷ op.Jump (q + size a + size b + 3) ∷
        code (q + size a + 3) b) (moves a p q x)
        (cons (op.JumpIfFalse (p + size a + 3)) (op.JumpIfFalse (q + size a + 3))
        (op.Push 1 ∷ op.Jump (p + size a + size b + 3) ∷ code (p + size a + 3) b)
        (op.Push 1 ∷ op.Jump (q + size a + size b + 3) ∷ code (q + size a + 3) b)
        (jump_if_false (p + size a + 3) (q + size a + 3) (omega arith))
        (cons (op.Push 1) (op.Push 1) (op.Jump (p + size a + size b + 3) ∷ code (p + size a + 3) b)
        (op.Jump (q + size a + size b + 3) ∷ code (q + size a + 3) b) refl
        (cons (op.Jump (p + size a + size b + 3)) (op.Jump (q + size a + size b + 3)) (code (p + size a + 3) b)
        (code (q + size a + 3) b) (jump (p + size a + size b + 3) (q + size a + size b + 3) (omega arith))
        (moves b (p + size a + 3) (q + size a + 3) (omega arith)))))
    moves (Hold a n b) p q x = last (code p a ++ code (p + size a) b) (code q a ++ code (q + size a) b) (op.Store n)
        (join (code p a) (code q a) (code (p + size a) b) (code (q + size a) b) (moves a p q x)
        (moves b (p + size a) (q + size a) (omega arith))) refl
    moves (Keep n a b) p q x = join (code p a) (code q a) (op.Store n ∷ code (p + size a + 1) b)
        (op.Store n ∷ code (q + size a + 1) b) (moves a p q x)
        (cons (op.Store n) (op.Store n) (code (p + size a + 1) b) (code (q + size a + 1) b) refl
        (moves b (p + size a + 1) (q + size a + 1) (omega arith)))
    moves (After a b) p q x = join (code p a) (code q a) (op.Pop ∷ code (p + size a + 1) b)
        (op.Pop ∷ code (q + size a + 1) b) (moves a p q x) (cons op.Pop op.Pop (code (p + size a + 1) b)
        (code (q + size a + 1) b) refl (moves b (p + size a + 1) (q + size a + 1) (omega arith)))
    moves (Field e f) p q x = last (code p e) (code q e) (op.GetField (f + 1)) (moves e p q x) refl
    moves (Item a i) p q x = last (code p a ++ code (p + size a) i) (code q a ++ code (q + size a) i) op.GetItem
        (join (code p a) (code q a) (code (p + size a) i) (code (q + size a) i) (moves a p q x)
        (moves i (p + size a) (q + size a) (omega arith))) refl
    moves (SetFirst a e) p q x =
        join (code p a ++ op.Push 0 ∷ code (p + size a + 1) e) (code q a ++ op.Push 0 ∷ code (q + size a + 1) e)
        (op.PutItem ∷ op.Push 0 ∷ []) (op.PutItem ∷ op.Push 0 ∷ [])
        (join (code p a) (code q a) (op.Push 0 ∷ code (p + size a + 1) e) (op.Push 0 ∷ code (q + size a + 1) e)
        (moves a p q x) (cons (op.Push 0) (op.Push 0) (code (p + size a + 1) e) (code (q + size a + 1) e) refl
        (moves e (p + size a + 1) (q + size a + 1) (omega arith)))) refl
    moves (ReadPair e) p q x = last (code p e) (code q e) op.ReadPair (moves e p q x) refl
    moves (SetPair e a) p q x = join (code p e ++ code (p + size e) a) (code q e ++ code (q + size e) a)
        (op.SetPair ∷ op.Push 0 ∷ []) (op.SetPair ∷ op.Push 0 ∷ [])
        (join (code p e) (code q e) (code (p + size e) a) (code (q + size e) a) (moves e p q x)
        (moves a (p + size e) (q + size e) (omega arith))) refl
    moves (SwapPair e a b) p q x = last (code p e ++ code (p + size e) a ++ code (p + size e + size a) b)
        (code q e ++ code (q + size e) a ++ code (q + size e + size a) b) op.SwapPair
        (join (code p e ++ code (p + size e) a) (code q e ++ code (q + size e) a) (code (p + size e + size a) b)
        (code (q + size e + size a) b) (join (code p e) (code q e) (code (p + size e) a) (code (q + size e) a)
        (moves e p q x) (moves a (p + size e) (q + size e) (omega arith)))
        (moves b (p + size e + size a) (q + size e + size a) (omega arith))) refl
    moves (AttemptMark e a b) p q x = last (code p e ++ code (p + size e) a ++ code (p + size e + size a) b)
        (code q e ++ code (q + size e) a ++ code (q + size e + size a) b) op.AttemptMark
        (join (code p e ++ code (p + size e) a) (code q e ++ code (q + size e) a) (code (p + size e + size a) b)
        (code (q + size e + size a) b) (join (code p e) (code q e) (code (p + size e) a) (code (q + size e) a)
        (moves e p q x) (moves a (p + size e) (q + size e) (omega arith)))
        (moves b (p + size e + size a) (q + size e + size a) (omega arith))) refl
    moves (OnLock o e) p q x = join (code p e) (code q e) (lock_code (p + size e) o) (lock_code (q + size e) o)
        (moves e p q x) (lock_stays o (p + size e) (q + size e) (omega arith))
    moves (Call m e es) p q x = last (code p e ++ all_code (p + size e) es) (code q e ++ all_code (q + size e) es)
        (op.Enter m) (join (code p e) (code q e) (all_code (p + size e) es) (all_code (q + size e) es) (moves e p q x)
        (all_move es (p + size e) (q + size e) (omega arith))) refl
    moves (MakeObject c m es) p q x =
        cons (op.NewObject c) (op.NewObject c) (op.Dup ∷ (all_code (p + 2) es ++ op.Enter m ∷ op.Pop ∷ []))
        (op.Dup ∷ (all_code (q + 2) es ++ op.Enter m ∷ op.Pop ∷ [])) refl
        (cons op.Dup op.Dup (all_code (p + 2) es ++ op.Enter m ∷ op.Pop ∷ [])
        (all_code (q + 2) es ++ op.Enter m ∷ op.Pop ∷ []) refl
        (join (all_code (p + 2) es) (all_code (q + 2) es) (op.Enter m ∷ op.Pop ∷ []) (op.Enter m ∷ op.Pop ∷ [])
        (all_move es (p + 2) (q + 2) (omega arith)) refl))
    moves MakeLock p q x = refl
    moves (MakeMarkable e) p q x = last (code p e) (code q e) op.NewMarkable (moves e p q x) refl
    moves (MakeArray e) p q x = last (code p e) (code q e) op.NewArray (moves e p q x) refl

    pub all_move : (es : Expressions) (p q : ℕ) → q ≡ start + p → map (moved start) (all_code p es) ≡ all_code q es
    all_move End p q x = refl
    all_move (More e es) p q x = join (code p e) (code q e) (all_code (p + size e) es) (all_code (q + size e) es)
        (moves e p q x) (all_move es (p + size e) (q + size e) (omega arith))
