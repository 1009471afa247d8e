-- Each silent instruction of an expression leads to a later place, except the jump back to the SEE of a lock() that
-- waits.
use Rattle.std.proofs.Common.{ℕ, ◌+◌, ◌<◌, [], ◌∷◌, refl}
use Rattle.std.proofs.Common.{arith, inl, inr}
use Rattle.ls_code.specs.declared.instruction.Instruction.TheVariants as op
use Rattle.ls_lowered.specs.declared.tree.UnaryOperator.{UnaryOperator}
use Rattle.ls_lowered.specs.declared.tree.UnaryOperator.TheVariants.{Negate, Not, ReferenceOf, MarkOf}
use Rattle.ls_lowered.specs.declared.tree.BinaryOperator.{BinaryOperator}
use Rattle.ls_lowered.specs.declared.tree.BinaryOperator.TheVariants as binary
use Rattle.ls_lowered.specs.declared.tree.LockOperation.{LockOperation}
use Rattle.ls_lowered.specs.declared.tree.LockOperation.TheVariants.{Lock, Unlock, TryLock, IsHeld, LockMonitor}
use Rattle.ls_lowered.specs.declared.tree.LockOperation.TheVariants.{UnlockMonitor}
use Rattle.ls_lowered.specs.LoweredTree.{Expression, Word, Local, Unary, Binary, And, Or, Hold, Keep, After, Field}
use Rattle.ls_lowered.specs.LoweredTree.{Item, SetFirst, ReadPair, SetPair, SwapPair, AttemptMark, OnLock, Call}
use Rattle.ls_lowered.specs.LoweredTree.{MakeObject, MakeLock, MakeMarkable, MakeArray, Expressions, End, More}
use Rattle.ls_emit.specs.LockCode.{lock_code, lock_size}
use Rattle.ls_emit.specs.Expressions.{unary_code, binary_code, size, all_size, code, all_code}
use Rattle.ls_emit.proofs.Places.{size_is, all_size_is}
use Rattle.ls_linker.proofs.Silent.{Ahead, AllAt, on, at, two_at, three_at, four_at, one_more}

module _ (n : ℕ) where
  unary_at : (o : UnaryOperator) (B : ℕ → Type 0) (p : ℕ) → p + 1 < n → Ahead n B p (unary_code o)
  unary_at Negate B p l = l
  unary_at Not B p l = l
  unary_at ReferenceOf B p l = l
  unary_at MarkOf B p l = l

  binary_at : (o : BinaryOperator) (B : ℕ → Type 0) (p : ℕ) → p + 1 < n → Ahead n B p (binary_code o)
  binary_at binary.Add B p l = l
  binary_at binary.Subtract B p l = l
  binary_at binary.Multiply B p l = l
  binary_at binary.Divide B p l = l
  binary_at binary.Remainder B p l = l
  binary_at binary.Less B p l = l
  binary_at binary.LessEqual B p l = l
  binary_at binary.Greater B p l = l
  binary_at binary.GreaterEqual B p l = l
  binary_at binary.Equal B p l = l
  binary_at binary.NotEqual B p l = l
  binary_at binary.Pack B p l = l

  lock_at : (o : LockOperation) (p : ℕ) → p + lock_size o < n → AllAt n p (lock_code p o)
  lock_at Lock p l =
      (omega arith, (omega arith, ((omega arith, inr (omega arith, (1, refl))), (omega arith, (omega arith, tt)))))
  lock_at Unlock p l = (omega arith, (omega arith, (omega arith, tt)))
  lock_at TryLock p l = (omega arith, (omega arith, (omega arith, (omega arith, tt))))
  lock_at IsHeld p l = (omega arith, tt)
  lock_at LockMonitor p l =
      (omega arith, (omega arith, ((omega arith, inr (omega arith, (4, refl))), (omega arith, (omega arith, tt)))))
  lock_at UnlockMonitor p l = (omega arith, (omega arith, (omega arith, tt)))

  mutual
    pub ahead : (e : Expression) (p : ℕ) → p + size e < n → AllAt n p (code p e)
    ahead (Word w) p l = (omega arith, tt)
    ahead (Local k) p l = (omega arith, tt)
    ahead (Unary o e) p l = two_at n p (size e) (code p e) (unary_code o ∷ []) (size_is e p) (ahead e p (omega arith))
        (unary_at o _ (p + size e) (omega arith), tt)
    ahead (Binary o a b) p l =
        three_at n p (size a) (size b) (code p a) (code (p + size a) b) (binary_code o ∷ []) (size_is a p)
        (size_is b (p + size a)) (ahead a p (omega arith)) (ahead b (p + size a) (omega arith))
        (binary_at o _ (p + size a + size b) (omega arith), tt)
    ahead (And a b) p l =
        three_at n p (size a) (size b + 1) (code p a) (op.JumpIfFalse (p + size a + size b + 2) ∷ code
        (p + size a + 1) b)
        (op.Jump (p + size a + size b + 3) ∷ op.Push 0 ∷ []) (size_is a p)
        (one_more (op.JumpIfFalse (p + size a + size b + 2)) (code (p + size a + 1) b) (size b)
        (size_is b (p + size a + 1)))
        (ahead a p (omega arith)) (
          (omega arith, inl (omega arith, omega arith)),
          on n _ _ (p + size a + 1) (code (p + size a + 1) b) (ahead b (p + size a + 1) (omega arith)),
        )
        ((omega arith, omega arith), (omega arith, tt))
    ahead (Or a b) p l =
        two_at n p (size a) (code p a) (op.JumpIfFalse (p + size a + 3) ∷ op.Push 1 ∷ op.Jump
        (p + size a + size b + 3) ∷
        code (p + size a + 3) b) (size_is a p)
        (ahead a p (omega arith)) (
          (omega arith, inl (omega arith, omega arith)),
          (
            omega arith,
            (
              (omega arith, omega arith),
              on n _ _ (p + size a + 1 + 1 + 1) (code (p + size a + 3) b)
                  (at n (p + size a + 3) (p + size a + 1 + 1 + 1) (code (p + size a + 3) b) (omega arith)
                  (ahead b (p + size a + 3) (omega arith))),
            ),
          ),
        )
    ahead (Hold a k b) p l =
        three_at n p (size a) (size b) (code p a) (code (p + size a) b) (op.Store k ∷ []) (size_is a p)
        (size_is b (p + size a)) (ahead a p (omega arith)) (ahead b (p + size a) (omega arith)) (omega arith, tt)
    ahead (Keep k a b) p l = two_at n p (size a) (code p a) (op.Store k ∷ code (p + size a + 1) b) (size_is a p)
        (ahead a p (omega arith)) (
          omega arith,
          on n _ _ (p + size a + 1) (code (p + size a + 1) b)
              (ahead b (p + size a + 1) (omega arith)),
        )
    ahead (After a b) p l = two_at n p (size a) (code p a) (op.Pop ∷ code (p + size a + 1) b) (size_is a p)
        (ahead a p (omega arith)) (
          omega arith,
          on n _ _ (p + size a + 1) (code (p + size a + 1) b)
              (ahead b (p + size a + 1) (omega arith)),
        )
    ahead (Field e f) p l = two_at n p (size e) (code p e) (op.GetField (f + 1) ∷ []) (size_is e p)
        (ahead e p (omega arith)) (omega arith, tt)
    ahead (Item a i) p l =
        three_at n p (size a) (size i) (code p a) (code (p + size a) i) (op.GetItem ∷ []) (size_is a p)
        (size_is i (p + size a)) (ahead a p (omega arith)) (ahead i (p + size a) (omega arith)) (omega arith, tt)
    ahead (SetFirst a e) p l =
        three_at n p (size a) (size e + 1) (code p a) (op.Push 0 ∷ code (p + size a + 1) e)
        (op.PutItem ∷ op.Push 0 ∷ [])
        (size_is a p) (one_more (op.Push 0) (code (p + size a + 1) e) (size e) (size_is e (p + size a + 1)))
        (ahead a p (omega arith)) (
          omega arith,
          on n _ _ (p + size a + 1) (code (p + size a + 1) e)
              (ahead e (p + size a + 1) (omega arith)),
        ) (omega arith, (omega arith, tt))
    ahead (ReadPair e) p l = two_at n p (size e) (code p e) (op.ReadPair ∷ []) (size_is e p) (ahead e p (omega arith))
        (omega arith, tt)
    ahead (SetPair e a) p l =
        three_at n p (size e) (size a) (code p e) (code (p + size e) a) (op.SetPair ∷ op.Push 0 ∷ []) (size_is e p)
        (size_is a (p + size e)) (ahead e p (omega arith)) (ahead a (p + size e) (omega arith))
        (omega arith, (omega arith, tt))
    ahead (SwapPair e a b) p l =
        four_at n p (size e) (size a) (size b) (code p e) (code (p + size e) a) (code (p + size e + size a) b)
        (op.SwapPair ∷ []) (size_is e p) (size_is a (p + size e)) (size_is b (p + size e + size a))
        (ahead e p (omega arith)) (ahead a (p + size e) (omega arith)) (ahead b (p + size e + size a) (omega arith))
        (omega arith, tt)
    ahead (AttemptMark e a b) p l =
        four_at n p (size e) (size a) (size b) (code p e) (code (p + size e) a) (code (p + size e + size a) b)
        (op.AttemptMark ∷ []) (size_is e p) (size_is a (p + size e)) (size_is b (p + size e + size a))
        (ahead e p (omega arith)) (ahead a (p + size e) (omega arith)) (ahead b (p + size e + size a) (omega arith))
        (omega arith, tt)
    ahead (OnLock o e) p l = two_at n p (size e) (code p e) (lock_code (p + size e) o) (size_is e p)
        (ahead e p (omega arith)) (lock_at o (p + size e) (omega arith))
    ahead (Call m e es) p l =
        three_at n p (size e) (all_size es) (code p e) (all_code (p + size e) es) (op.Enter m ∷ []) (size_is e p)
        (all_size_is es (p + size e)) (ahead e p (omega arith)) (all_ahead es (p + size e) (omega arith))
        (omega arith, tt)
    ahead (MakeObject c m es) p l =
        two_at n p (all_size es + 2) (op.NewObject c ∷ op.Dup ∷ all_code (p + 2) es) (op.Enter m ∷ op.Pop ∷ [])
        (omega (arith, all_size_is es (p + 2))) (
          omega arith,
          (
            omega arith,
            on n _ _ (p + 1 + 1) (all_code (p + 2) es)
                (at n (p + 2) (p + 1 + 1) (all_code (p + 2) es) (omega arith) (all_ahead es (p + 2) (omega arith))),
          ),
        )
        (at n (p + 2 + all_size es) (p + (all_size es + 2)) (op.Enter m ∷ op.Pop ∷ []) (omega arith)
        (omega arith, (omega arith, tt)))
    ahead MakeLock p l = (omega arith, tt)
    ahead (MakeMarkable e) p l = two_at n p (size e) (code p e) (op.NewMarkable ∷ []) (size_is e p)
        (ahead e p (omega arith)) (omega arith, tt)
    ahead (MakeArray e) p l = two_at n p (size e) (code p e) (op.NewArray ∷ []) (size_is e p) (ahead e p (omega arith))
        (omega arith, tt)

    pub all_ahead : (es : Expressions) (p : ℕ) → p + all_size es < n → AllAt n p (all_code p es)
    all_ahead End p l = tt
    all_ahead (More e es) p l = two_at n p (size e) (code p e) (all_code (p + size e) es) (size_is e p)
        (ahead e p (omega arith)) (all_ahead es (p + size e) (omega arith))
