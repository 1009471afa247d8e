-- How many answers a course takes at the most: of expressions.
use Rattle.std.proofs.Common.{ℕ, ◌+◌, ◌<◌, ◌≤◌, Bool, true, false, cond, List, [], ◌∷◌, length, arith}
use Rattle.std.specs.Prelude.{nat_eq, pos, int_lt}
use Rattle.ls_events.specs.declared.action.Action.{Action}
use Rattle.ls_events.specs.declared.action.Answer.TheVariants.{Done, Gives, Fails}
use Rattle.ls_events.specs.declared.value.Value.{Value}
use Rattle.ls_checked.specs.declared.tree.Operator.{Operator}
use Rattle.ls_checked.specs.declared.tree.Called.{Called}
use Rattle.ls_checked.specs.declared.tree.Called.TheVariants.{Method as OfMethod, LockIt, UnlockIt, TryIt, AskIt}
use Rattle.ls_checked.specs.declared.tree.Called.TheVariants.{HoldMonitor, FreeMonitor, GetReference, IsMarked}
use Rattle.ls_checked.specs.declared.tree.Called.TheVariants.{GetBoth, SetBoth, CompareAndSet, Attempt}
use Rattle.ls_checked.specs.CheckedTree.{Class, Expression, Literal, Slot, Field, Item, Negate, Not, Binary, And, Or}
use Rattle.ls_checked.specs.CheckedTree.{Call, MakeObject, MakeLock, MakeMarkable, MakeArray, Expressions, End, More}
use Rattle.ls_meaning.specs.declared.sort.Sort.{Sort}
use Rattle.ls_meaning.specs.Values.{truth_of, int_of, divides_by_zero, reference_of}
use Rattle.ls_meaning.specs.Course.{Answers, Evaluated, Asks, Results, Throws, ask, tell, with_value, unless_null}
use Rattle.ls_meaning.specs.Course.{on_object}
use Rattle.ls_meaning.specs.Expressions.{Calls, evaluate, arguments, call, operate}

-- Of so many answers at most n are taken: what asks has had fewer, and what has ended leaves the others.
abbrev pub Leaves : {A : Type 0} → ℕ → ℕ → Evaluated A → Type 0
Leaves n l (Asks action sort) = l < n
Leaves n l (Results v rest) = l ≤ n + length rest
Leaves n l (Throws kind rest) = l ≤ n + length rest

-- a larger bound is one too
pub leaves_more : {A : Type 0} (n m l : ℕ) (x : Evaluated A) → n ≤ m → Leaves n l x → Leaves m l x
leaves_more n m l (Asks a s) le h = omega arith
leaves_more n m l (Results v rest) le h = omega arith
leaves_more n m l (Throws k rest) le h = omega arith

-- what is left after n more answers
leaves_rest : {A : Type 0} (n m l r : ℕ) (y : Evaluated A) → l ≤ n + r → Leaves m r y → Leaves (n + m) l y
leaves_rest n m l r (Asks a s) le j = omega arith
leaves_rest n m l r (Results w more) le j = omega arith
leaves_rest n m l r (Throws kind more) le j = omega arith

-- one course after another
pub with_leaves : {A B : Type 0} (n m l : ℕ) (x : Evaluated A) (go : A → Answers → Evaluated B) → Leaves n l x →
    ((v : A) (rest : Answers) → Leaves m (length rest) (go v rest)) → Leaves (n + m) l (with_value x go)
with_leaves n m l (Asks a s) go h k = omega arith
with_leaves n m l (Throws kind rest) go h k = omega arith
with_leaves n m l (Results v rest) go h k = leaves_rest n m l (length rest) (go v rest) h (k v rest)

-- one action takes one answer
pub ask_leaves : (a : Action Value) (s : Sort) (q : Answers) → Leaves 1 (length q) (ask a s q)
ask_leaves a s [] = omega arith
ask_leaves a s (Done ∷ q) = omega arith
ask_leaves a s (Gives v ∷ q) = omega arith
ask_leaves a s (Fails k ∷ q) = omega arith

-- so does one that is always done
pub tell_leaves : (a : Action Value) (q : Answers) → Leaves 1 (length q) (tell a q)
tell_leaves a [] = omega arith
tell_leaves a (x ∷ q) = omega arith

-- either of two courses
pub cond_leaves : {A : Type 0} (b : Bool) (n l : ℕ) (x y : Evaluated A) → Leaves n l x → Leaves n l y →
    Leaves n l (cond b x y)
cond_leaves true n l x y h k = h
cond_leaves false n l x y h k = k

-- what ends at once takes none
pub none_taken : (n : ℕ) (q : Answers) → length q ≤ n + length q
none_taken n q = omega arith

-- a test for null takes none
pub null_leaves : {A : Type 0} (o n : ℕ) (q : Answers) (x : Evaluated A) → Leaves n (length q) x →
    Leaves n (length q) (unless_null o q x)
null_leaves o n q x h = cond_leaves (nat_eq o 0) n (length q) _ x (omega arith) h

-- an action on an object takes one
pub object_leaves : (o : Value) (a : Action Value) (s : Sort) (q : Answers) → Leaves 1 (length q) (on_object o a s q)
object_leaves o a s q = null_leaves (reference_of o) 1 q (ask a s q) (ask_leaves a s q)

-- an operator takes none
pub operate_leaves : (op : Operator) (x y : Value) (q : Answers) → Leaves 0 (length q) (operate op x y q)
operate_leaves op x y q = cond_leaves (divides_by_zero op y) 0 (length q) _ _ (omega arith) (omega arith)

-- a bound for a course, whatever the locals are
abbrev pub Bounds : {A : Type 0} → (List Value → Answers → Evaluated A) → Type 0
Bounds f = (n : ℕ) × ((ls : List Value) (q : Answers) → Leaves n (length q) (f ls q))

module _ (classes : List Class) (calls : Calls) (most : ℕ)
    (within : (m : ℕ) (vs : List Value) (q : Answers) → Leaves most (length q) (calls m vs q)) where
  asks_few : (a : Action Value) (s : Sort) (q : Answers) → Leaves (most + 3) (length q) (ask a s q)
  asks_few a s q = leaves_more 1 (most + 3) (length q) (ask a s q) (omega arith) (ask_leaves a s q)

  pair_leaves : (a : Action Value) (s : Sort) (go : Value → Value) (q : Answers) →
      Leaves (most + 3) (length q) (with_value (ask a s q) (λ pair rest. Results (go pair) rest))
  pair_leaves a s go q = leaves_more (1 + 0) (most + 3) (length q)
      (with_value (ask a s q) (λ pair rest. Results (go pair) rest)) (omega arith)
      (with_leaves 1 0 (length q) (ask a s q) (λ pair rest. Results (go pair) rest) (ask_leaves a s q)
      (λ pair rest. none_taken 0 rest))

  call_leaves : (c : Called) (o : Value) (vs : List Value) (q : Answers) →
      Leaves (most + 3) (length q) (call calls c o vs q)
  call_leaves (OfMethod m) o vs q = leaves_more most (most + 3) (length q) (calls m (o ∷ vs) q) (omega arith)
      (within m (o ∷ vs) q)
  call_leaves LockIt o vs q = asks_few _ _ q
  call_leaves UnlockIt o vs q = asks_few _ _ q
  call_leaves TryIt o vs q = asks_few _ _ q
  call_leaves AskIt o vs q = asks_few _ _ q
  call_leaves (HoldMonitor c) o vs q = asks_few _ _ q
  call_leaves (FreeMonitor c) o vs q = asks_few _ _ q
  call_leaves (GetReference c) o vs q = pair_leaves _ _ _ q
  call_leaves (IsMarked c) o vs q = pair_leaves _ _ _ q
  call_leaves (GetBoth c) o vs q = leaves_more (1 + (1 + 0)) (most + 3) (length q) (call calls (GetBoth c) o vs q)
      (omega arith) (with_leaves 1 (1 + 0) (length q) _ _ (ask_leaves _ _ q)
      (λ pair rest. null_leaves _ (1 + 0) rest _ (with_leaves 1 0 (length rest) _ _ (ask_leaves _ _ rest)
      (λ _ more. none_taken 0 more))))
  call_leaves SetBoth o vs q = asks_few _ _ q
  call_leaves CompareAndSet o vs q = asks_few _ _ q
  call_leaves Attempt o vs q = asks_few _ _ q

  mutual
    -- an expression has a bound, if calls have
    pub evaluate_bound : (e : Expression) → Bounds (evaluate classes calls e)
    evaluate_bound (Literal v) = (0, λ ls q. none_taken 0 q)
    evaluate_bound (Slot n) = (0, λ ls q. none_taken 0 q)
    evaluate_bound (Field e c f) =
        let b = evaluate_bound e in
        (b.0 + 1, λ ls q. with_leaves b.0 1 (length q) _ _ (b.1 ls q) (λ o rest. object_leaves o _ _ rest))
    evaluate_bound (Item a i) =
        let b = evaluate_bound a in
        let c = evaluate_bound i in (
          b.0 + (c.0 + 1),
          λ ls q. with_leaves b.0 (c.0 + 1) (length q) _ _ (b.1 ls q)
              (λ o rest. with_leaves c.0 1 (length rest) _ _ (c.1 ls rest) (λ n more. object_leaves o _ _ more)),
        )
    evaluate_bound (Negate e) =
        let b = evaluate_bound e in
        (b.0 + 0, λ ls q. with_leaves b.0 0 (length q) _ _ (b.1 ls q) (λ v rest. none_taken 0 rest))
    evaluate_bound (Not e) =
        let b = evaluate_bound e in
        (b.0 + 0, λ ls q. with_leaves b.0 0 (length q) _ _ (b.1 ls q) (λ v rest. none_taken 0 rest))
    evaluate_bound (Binary op x y) =
        let b = evaluate_bound x in
        let c = evaluate_bound y in (
          b.0 + (c.0 + 0),
          λ ls q. with_leaves b.0 (c.0 + 0) (length q) _ _ (b.1 ls q)
              (λ v rest. with_leaves c.0 0 (length rest) _ _ (c.1 ls rest) (λ w more. operate_leaves op v w more)),
        )
    evaluate_bound (And x y) =
        let b = evaluate_bound x in
        let c = evaluate_bound y in (
          b.0 + c.0,
          λ ls q. with_leaves b.0 c.0 (length q) _ _ (b.1 ls q)
              (λ v rest. cond_leaves (truth_of v) c.0 (length rest) _ _ (c.1 ls rest) (none_taken c.0 rest)),
        )
    evaluate_bound (Or x y) =
        let b = evaluate_bound x in
        let c = evaluate_bound y in (
          b.0 + c.0,
          λ ls q. with_leaves b.0 c.0 (length q) _ _ (b.1 ls q)
              (λ v rest. cond_leaves (truth_of v) c.0 (length rest) _ _ (none_taken c.0 rest) (c.1 ls rest)),
        )
    evaluate_bound (Call e m es) =
        let b = evaluate_bound e in
        let c = arguments_bound es in (
          b.0 + (c.0 + (most + 3)),
          λ ls q. with_leaves b.0 (c.0 + (most + 3)) (length q) _ _ (b.1 ls q)
              (λ o rest. with_leaves c.0 (most + 3) (length rest) _ _ (c.1 ls rest)
              (λ vs more. null_leaves (reference_of o) (most + 3) more _ (call_leaves m o vs more))),
        )
    evaluate_bound (MakeObject k es) =
        let c = arguments_bound es in (
          1 + (c.0 + (most + 0)),
          λ ls q. with_leaves 1 (c.0 + (most + 0)) (length q) _ _ (ask_leaves _ _ q)
              (λ o rest. with_leaves c.0 (most + 0) (length rest) _ _ (c.1 ls rest)
              (λ vs more. with_leaves most 0 (length more) _ _ (within _ (o ∷ vs) more)
              (λ _ left. none_taken 0 left))),
        )
    evaluate_bound MakeLock = (1, λ ls q. ask_leaves _ _ q)
    evaluate_bound (MakeMarkable k es) =
        let c = arguments_bound es in
        (c.0 + 1, λ ls q. with_leaves c.0 1 (length q) _ _ (c.1 ls q) (λ vs rest. ask_leaves _ _ rest))
    evaluate_bound (MakeArray e) =
        let b = evaluate_bound e in (
          b.0 + 1,
          λ ls q. with_leaves b.0 1 (length q) _ _ (b.1 ls q)
              (λ n rest. cond_leaves (int_lt (int_of n) (pos 0)) 1 (length rest) _ _ (omega arith)
              (ask_leaves _ _ rest)),
        )

    -- so have arguments
    pub arguments_bound : (es : Expressions) → Bounds (arguments classes calls es)
    arguments_bound End = (0, λ ls q. none_taken 0 q)
    arguments_bound (More e es) =
        let b = evaluate_bound e in
        let c = arguments_bound es in (
          b.0 + (c.0 + 0),
          λ ls q. with_leaves b.0 (c.0 + 0) (length q) _ _ (b.1 ls q)
              (λ v rest. with_leaves c.0 0 (length rest) _ _ (c.1 ls rest) (λ vs more. none_taken 0 more)),
        )
