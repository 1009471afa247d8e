-- The evaluation of expressions. Operands, then arguments, go from left to right (JLS 15.7).
use Rattle.std.specs.Prelude.{ℕ, pos, neg_ℤ, true, false, not, int_lt, List, [], ◌∷◌, Option, Some, None, slice_get}
use Rattle.std.specs.Prelude.{slice_index_or, if◌then◌else◌}
use Rattle.ls_events.specs.declared.value.Value.{Value}
use Rattle.ls_events.specs.declared.value.Value.TheVariants as values
use Rattle.ls_events.specs.declared.value.ValueType.TheVariants as types
use Rattle.ls_events.specs.declared.value.ValueType.{ValueType}
use Rattle.ls_events.specs.declared.kind.Kind.TheVariants.{Arithmetic, NegativeArraySize}
use Rattle.ls_events.specs.declared.action.Action.TheVariants.{ReadField, ReadItem, WriteItem, New, NewLock}
use Rattle.ls_events.specs.declared.action.Action.TheVariants.{NewMarkable, NewArray, Lock, Unlock, TryLock, IsHeld}
use Rattle.ls_events.specs.declared.action.Action.TheVariants.{LockMonitor, UnlockMonitor, ReadPair, SetPair, SwapPair}
use Rattle.ls_events.specs.declared.action.Action.TheVariants.{AttemptMark}
use Rattle.ls_checked.specs.declared.tree.Operator.{Operator}
use Rattle.ls_checked.specs.declared.tree.Called.{Called}
use Rattle.ls_checked.specs.declared.tree.Called.TheVariants.{Method, LockIt, UnlockIt, TryIt, AskIt, HoldMonitor}
use Rattle.ls_checked.specs.declared.tree.Called.TheVariants.{FreeMonitor, GetReference, IsMarked, GetBoth, SetBoth}
use Rattle.ls_checked.specs.declared.tree.Called.TheVariants.{CompareAndSet, Attempt}
use Rattle.ls_checked.specs.CheckedTree.{Class, Expression, Literal, Slot, Field, Item, Negate, Not, Binary, And, Or}
use Rattle.ls_checked.specs.CheckedTree.{Call, MakeObject, MakeLock, MakeMarkable, MakeArray, Expressions, End, More}
use Rattle.ls_meaning.specs.declared.sort.Sort.{Sort}
use Rattle.ls_meaning.specs.declared.sort.Sort.TheVariants.{NoValue, ValueOf, NewOf, PairOf}
use Rattle.ls_meaning.specs.Values.{int_of, truth_of, reference_of, mark_of, pair_of, nothing, wrapped, operated}
use Rattle.ls_meaning.specs.Values.{divides_by_zero}
use Rattle.ls_meaning.specs.Course.{Answers, Evaluated, Results, Throws, ask, with_value, unless_null, on_object}

-- what a call of a method does, with `this` and the arguments
abbrev pub Calls : Type 0
Calls = ℕ → List Value → Answers → Evaluated Value

-- both operands, and then the operator (JLS 15.17 to 15.21)
abbrev pub operate : Operator → Value → Value → Answers → Evaluated Value
operate op x y rest = if divides_by_zero op y then Throws Arithmetic rest else Results (operated op x y) rest

-- what a field's read is answered: a value of the field's declared type
abbrev pub value_in : Option ValueType → Sort
value_in None = NoValue
value_in (Some t) = ValueOf t

abbrev pub field_in : Option Class → ℕ → Sort
field_in None f = NoValue
field_in (Some c) f = value_in (slice_get c.fields f)

abbrev pub field_of : List Class → ℕ → ℕ → Sort
field_of classes c f = field_in (slice_get classes c) f

-- the constructor of a class
abbrev pub constructor_in : Option Class → ℕ
constructor_in None = 0
constructor_in (Some c) = c.constructor

abbrev pub constructor_of : List Class → ℕ → ℕ
constructor_of classes n = constructor_in (slice_get classes n)

-- the pair is read, and then the mark goes to element 0 of the array (AtomicMarkableReference.get)
abbrev pub get_both : ℕ → ℕ → ℕ → Answers → Evaluated Value
get_both class markable array rest =
    with_value (ask (ReadPair markable) (PairOf class) rest) (λ pair rest.
    unless_null array rest (
    with_value (ask (WriteItem array (pos 0) (values.Boolean (mark_of pair))) NoValue rest) (λ _ rest.
    Results (values.Reference (reference_of pair)) rest)))

-- the n-th argument
abbrev pub argument : List Value → ℕ → Value
argument vs n = slice_index_or vs n nothing

-- What is called, on an object that isn't null. It is a method (JLS 15.12.4.5), or an operation of a lock
-- (java.util.concurrent.locks.ReentrantLock), of a monitor, or of a markable
-- (java.util.concurrent.atomic.AtomicMarkableReference).
abbrev pub call : Calls → Called → Value → List Value → Answers → Evaluated Value
call calls (Method m) o vs rest = calls m (o ∷ vs) rest
-- lock(), unlock(), tryLock(), isHeldByCurrentThread()
call calls LockIt o vs rest = ask (Lock (reference_of o)) NoValue rest
call calls UnlockIt o vs rest = ask (Unlock (reference_of o)) NoValue rest
call calls TryIt o vs rest = ask (TryLock (reference_of o)) (ValueOf types.Boolean) rest
call calls AskIt o vs rest = ask (IsHeld (reference_of o)) (ValueOf types.Boolean) rest
-- the lock and the unlock of a monitor (JLS 14.19, 17.1)
call calls (HoldMonitor c) o vs rest = ask (LockMonitor (reference_of o)) NoValue rest
call calls (FreeMonitor c) o vs rest = ask (UnlockMonitor (reference_of o)) NoValue rest
-- getReference(), isMarked(), get(boolean[])
call calls (GetReference c) o vs rest =
    with_value (ask (ReadPair (reference_of o)) (PairOf c) rest)
    (λ pair rest. Results (values.Reference (reference_of pair)) rest)
call calls (IsMarked c) o vs rest =
    with_value (ask (ReadPair (reference_of o)) (PairOf c) rest)
    (λ pair rest. Results (values.Boolean (mark_of pair)) rest)
call calls (GetBoth c) o vs rest = get_both c (reference_of o) (reference_of (argument vs 0)) rest
-- set(newReference, newMark)
call calls SetBoth o vs rest = ask (SetPair (reference_of o) (pair_of (argument vs 0) (argument vs 1))) NoValue rest
-- compareAndSet(expectedReference, newReference, expectedMark, newMark)
call calls CompareAndSet o vs rest =
    ask (SwapPair (reference_of o) (pair_of (argument vs 0) (argument vs 2)) (pair_of (argument vs 1) (argument vs 3)))
    (ValueOf types.Boolean) rest
-- attemptMark(expectedReference, newMark)
call calls Attempt o vs rest =
    ask (AttemptMark (reference_of o) (reference_of (argument vs 0)) (truth_of (argument vs 1))) (ValueOf types.Boolean)
    rest

abbrev mutual
  pub evaluate : List Class → Calls → Expression → List Value → Answers → Evaluated Value
  -- a literal, a local variable, `this` (JLS 15.8.1, 15.8.3, 6.5.6.1)
  evaluate classes calls (Literal v) locals answers = Results v answers
  evaluate classes calls (Slot n) locals answers = Results (slice_index_or locals n nothing) answers
  -- field access (JLS 15.11.1)
  evaluate classes calls (Field e c f) locals answers =
      with_value (evaluate classes calls e locals answers) (λ o rest.
      on_object o (ReadField (reference_of o) f) (field_of classes c f) rest)
  -- array access (JLS 15.10.4)
  evaluate classes calls (Item a i) locals answers =
      with_value (evaluate classes calls a locals answers) (λ o rest.
      with_value (evaluate classes calls i locals rest) (λ n rest.
      on_object o (ReadItem (reference_of o) (int_of n)) (ValueOf types.Boolean) rest))
  -- unary minus, logical complement (JLS 15.15.4, 15.15.6)
  evaluate classes calls (Negate e) locals answers =
      with_value (evaluate classes calls e locals answers) (λ v rest. Results (wrapped (neg_ℤ (int_of v))) rest)
  evaluate classes calls (Not e) locals answers =
      with_value (evaluate classes calls e locals answers) (λ v rest. Results (values.Boolean (not (truth_of v))) rest)
  -- the left operand, then the right one, then the operator (JLS 15.7.1, 15.7.2)
  evaluate classes calls (Binary op a b) locals answers =
      with_value (evaluate classes calls a locals answers) (λ x rest.
      with_value (evaluate classes calls b locals rest) (λ y rest. operate op x y rest))
  -- conditional and, conditional or (JLS 15.23, 15.24)
  evaluate classes calls (And a b) locals answers =
      with_value (evaluate classes calls a locals answers) (λ x rest.
      if truth_of x then evaluate classes calls b locals rest else Results (values.Boolean false) rest)
  evaluate classes calls (Or a b) locals answers =
      with_value (evaluate classes calls a locals answers) (λ x rest.
      if truth_of x then Results (values.Boolean true) rest else evaluate classes calls b locals rest)
  -- the target, the arguments, the test for null, and then the call (JLS 15.12.4)
  evaluate classes calls (Call e m es) locals answers =
      with_value (evaluate classes calls e locals answers) (λ o rest.
      with_value (arguments classes calls es locals rest) (λ vs rest.
      unless_null (reference_of o) rest (call calls m o vs rest)))
  -- the object is made, then the arguments are evaluated, then the constructor runs (JLS 15.9.4)
  evaluate classes calls (MakeObject c es) locals answers =
      with_value (ask (New c) (NewOf (types.Class c)) answers) (λ o rest.
      with_value (arguments classes calls es locals rest) (λ vs rest.
      with_value (calls (constructor_of classes c) (o ∷ vs) rest) (λ _ rest. Results o rest)))
  evaluate classes calls MakeLock locals answers = ask NewLock (NewOf types.Lock) answers
  -- both arguments, and then the making
  evaluate classes calls (MakeMarkable c es) locals answers =
      with_value (arguments classes calls es locals answers) (λ vs rest.
      ask (NewMarkable (pair_of (argument vs 0) (argument vs 1))) (NewOf (types.Markable c)) rest)
  -- a negative length makes nothing (JLS 15.10.2)
  evaluate classes calls (MakeArray e) locals answers =
      with_value (evaluate classes calls e locals answers) (λ n rest.
      if int_lt (int_of n) (pos 0) then Throws NegativeArraySize rest else
      ask (NewArray (int_of n)) (NewOf types.BooleanArray) rest)

  -- the arguments of a call, from the left (JLS 15.12.4.2)
  pub arguments : List Class → Calls → Expressions → List Value → Answers → Evaluated (List Value)
  arguments classes calls End locals answers = Results [] answers
  arguments classes calls (More e es) locals answers =
      with_value (evaluate classes calls e locals answers) (λ v rest.
      with_value (arguments classes calls es locals rest) (λ vs rest. Results (v ∷ vs) rest))
