-- Where code is, and how long it is.
use Rattle.std.proofs.Common.{◌≡◌, ℕ, ◌+◌, List, [], ◌∷◌, ◌++◌, length, Some, slice_get, refl, subst, arith}
use Rattle.std.proofs.Common.{append_assoc, length-append}
use Rattle.ls_code.specs.declared.instruction.Instruction.{Instruction}
use Rattle.ls_code.specs.declared.instruction.Instruction.TheVariants as op
use Rattle.ls_lowered.specs.LoweredTree.{Expression, Word, Local, Unary, Binary, And, Or, Hold, Keep, After, Field}
use Rattle.ls_lowered.specs.LoweredTree.{Item, SetFirst, ReadPair, SetPair, SwapPair, AttemptMark, OnLock, Call}
use Rattle.ls_lowered.specs.LoweredTree.{MakeObject, MakeLock, MakeMarkable, MakeArray, Expressions, End, More}
use Rattle.ls_emit.specs.LockCode.{lock_code}
use Rattle.ls_emit.proofs.LockSizes.{lock_size_is}
use Rattle.ls_emit.specs.Expressions.{unary_code, size, all_size, code, all_code}

-- the instructions are in the whole code at this place
abbrev pub HasAt : List Instruction → ℕ → List Instruction → Type 0
HasAt whole p [] = Unit {0}
HasAt whole p (i ∷ is) = (slice_get whole p ≡ Some i) × HasAt whole (p + 1) is

-- the first part of code that is at a place
pub has_front : (whole : List Instruction) (p : ℕ) (a b : List Instruction) → HasAt whole p (a ++ b) → HasAt whole p a
has_front whole p [] b h = tt
has_front whole p (i ∷ a) b h = (h.0, has_front whole (p + 1) a b h.1)

has_back : (whole : List Instruction) (p : ℕ) (a b : List Instruction) →
    HasAt whole p (a ++ b) →
    HasAt whole (p + length a) b
has_back whole p [] b h = let e : p ≡ p + 0 = omega arith in subst (λ n. HasAt whole n b) e h
has_back whole p (i ∷ a) b h =
    let e : p + 1 + length a ≡ p + length (i ∷ a) = omega arith in
    subst (λ n. HasAt whole n b) e (has_back whole (p + 1) a b h.1)

-- what comes after some code, at a place with another name
pub has_after : (whole : List Instruction) (p n : ℕ) (a b : List Instruction) →
    length a ≡ n →
    HasAt whole p (a ++ b) →
    HasAt whole (p + n) b
has_after whole p n a b e h = subst (λ m. HasAt whole (p + m) b) e (has_back whole p a b h)

-- parts in a row, the first alone
pub has_two : (whole : List Instruction) (p : ℕ) (a b c : List Instruction) →
    HasAt whole p ((a ++ b) ++ c) →
    HasAt whole p (a ++ (b ++ c))
has_two whole p a b c h = subst (HasAt whole p) (append_assoc a b c) h

-- three parts of code, grouped otherwise
pub has_three : (whole : List Instruction) (p : ℕ) (a b c d : List Instruction) →
    HasAt whole p (((a ++ b) ++ c) ++ d) →
    HasAt whole p (a ++ (b ++ (c ++ d)))
has_three whole p a b c d h = has_two whole p a b (c ++ d) (has_two whole p (a ++ b) c d h)

-- code at a place with another name
pub has_at : (whole : List Instruction) (p q : ℕ) (a : List Instruction) → p ≡ q → HasAt whole p a → HasAt whole q a
has_at whole p q a e h = subst (λ m. HasAt whole m a) e h

-- two parts
both : (a b : List Instruction) (m n : ℕ) → length a ≡ m → length b ≡ n → length (a ++ b) ≡ m + n
both a b m n x y = omega (arith, length-append a b, x, y)

mutual
  -- how long the code of an expression is
  pub size_is : (e : Expression) (p : ℕ) → length (code p e) ≡ size e
  size_is (Word w) p = refl
  size_is (Local n) p = refl
  size_is (Unary o e) p = both (code p e) (unary_code o ∷ []) _ _ (size_is e p) refl
  size_is (Binary o a b) p = simp (length-append, size_is a p, size_is b (p + size a)) (omega arith)
  size_is (And a b) p = simp (length-append, size_is a p, size_is b (p + size a + 1)) (omega arith)
  size_is (Or a b) p = simp (length-append, size_is a p, size_is b (p + size a + 3)) (omega arith)
  size_is (Hold a n b) p = simp (length-append, size_is a p, size_is b (p + size a)) (omega arith)
  size_is (Keep n a b) p = simp (length-append, size_is a p, size_is b (p + size a + 1)) (omega arith)
  size_is (After a b) p = simp (length-append, size_is a p, size_is b (p + size a + 1)) (omega arith)
  size_is (Field e f) p = both (code p e) (op.GetField (f + 1) ∷ []) _ _ (size_is e p) refl
  size_is (Item a i) p = simp (length-append, size_is a p, size_is i (p + size a)) (omega arith)
  size_is (SetFirst a e) p = simp (length-append, size_is a p, size_is e (p + size a + 1)) (omega arith)
  size_is (ReadPair e) p = both (code p e) (op.ReadPair ∷ []) _ _ (size_is e p) refl
  size_is (SetPair e a) p = simp (length-append, size_is e p, size_is a (p + size e)) (omega arith)
  size_is (SwapPair e a b) p = simp (
    length-append,
    size_is e p,
    size_is a (p + size e),
    size_is b (p + size e + size a),
  ) (omega arith)
  size_is (AttemptMark e a b) p = simp (
    length-append,
    size_is e p,
    size_is a (p + size e),
    size_is b (p + size e + size a),
  ) (omega arith)
  size_is (OnLock o e) p = both (code p e) (lock_code (p + size e) o) _ _ (size_is e p) (lock_size_is o (p + size e))
  size_is (Call m e es) p = simp (length-append, size_is e p, all_size_is es (p + size e)) (omega arith)
  size_is (MakeObject c m es) p = simp (length-append, all_size_is es (p + 2)) (omega arith)
  size_is MakeLock p = refl
  size_is (MakeMarkable e) p = both (code p e) (op.NewMarkable ∷ []) _ _ (size_is e p) refl
  size_is (MakeArray e) p = both (code p e) (op.NewArray ∷ []) _ _ (size_is e p) refl

  -- how long the code of arguments is
  pub all_size_is : (es : Expressions) (p : ℕ) → length (all_code p es) ≡ all_size es
  all_size_is End p = refl
  all_size_is (More e es) p = both (code p e) (all_code (p + size e) es) _ _ (size_is e p) (all_size_is es (p + size e))
