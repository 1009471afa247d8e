-- Courses commute with renamings of references: values and expressions.
use Rattle.std.proofs.Common.{◌≡◌, ℕ, ℤ, ◌+ℤ◌, ◌-ℤ◌, ◌*ℤ◌, neg_ℤ, Bool, true, false, not, cond, List, [], ◌∷◌, map}
use Rattle.std.proofs.Common.{refl, sym, ap, ◌∙◌, subst, arith}
use Rattle.std.specs.Prelude.{pos, int_lt, int_le, int_rem, nat_eq, slice_index_or}
use Rattle.std.specs.Int.{int_wrapping_div}
use Rattle.std.specs.Ordering.{int_eq}
use mir.Syntax.{w32}
use Rattle.std.proofs.Math.ListN.{get_or-map}
use Rattle.std.proofs.lemmas.Grind.{common_steps}
use Rattle.ls_events.specs.declared.value.Value.{Value}
use Rattle.ls_events.specs.declared.value.Value.TheVariants.{Int, Boolean, Reference, Pair}
use Rattle.ls_events.specs.declared.value.ValueType.TheVariants as types
use Rattle.ls_events.specs.declared.kind.Kind.TheVariants.{NullPointer, Arithmetic}
use Rattle.ls_events.specs.declared.action.Action.{Action}
use Rattle.ls_events.specs.declared.action.Action.TheVariants.{ReadField, ReadItem, WriteItem, New, NewLock}
use Rattle.ls_events.specs.declared.action.Action.TheVariants.{NewMarkable, NewArray, Lock, Unlock, TryLock, IsHeld}
use Rattle.ls_events.specs.declared.action.Action.TheVariants.{LockMonitor, UnlockMonitor, ReadPair, SetPair, SwapPair}
use Rattle.ls_events.specs.declared.action.Action.TheVariants.{AttemptMark}
use Rattle.ls_events.specs.declared.action.Answer.TheVariants.{Done, Gives, Fails}
use Rattle.ls_checked.specs.declared.tree.Operator.{Operator}
use Rattle.ls_checked.specs.declared.tree.Operator.TheVariants as operators
use Rattle.ls_checked.specs.declared.tree.Called.{Called}
use Rattle.ls_checked.specs.declared.tree.Called.TheVariants as called
use Rattle.ls_checked.specs.CheckedTree.{Class, Expression, Literal, Slot, Field, Item, Negate, Not, Binary, And, Or}
use Rattle.ls_checked.specs.CheckedTree.{Call, MakeObject, MakeLock, MakeMarkable, MakeArray, Expressions, End, More}
use Rattle.ls_meaning.specs.declared.sort.Sort.{Sort}
use Rattle.ls_meaning.specs.declared.sort.Sort.TheVariants.{NoValue, ValueOf, NewOf, PairOf}
use Rattle.ls_meaning.specs.Values.{int_of, truth_of, reference_of, mark_of, pair_of, nothing, wrapped, same, operated}
use Rattle.ls_meaning.specs.Values.{divides_by_zero}
use Rattle.ls_meaning.specs.Course.{Answers, Evaluated, Asks, Results, Throws, ask, tell, with_value, unless_null}
use Rattle.ls_meaning.specs.Course.{on_object}
use Rattle.ls_meaning.specs.Expressions.{Calls, operate, field_of, constructor_of, get_both, argument, call, evaluate}
use Rattle.ls_meaning.specs.Expressions.{arguments}
use Rattle.ls_meaning.specs.Renamings.{IsRenaming, renamed, renamed_action, renamed_answers}
use Rattle.ls_meaning.specs.Constants.{IsConstant, HasConstants, HaveConstants}

module _ (names : ℕ → ℕ) (is : IsRenaming names) where
  -- the answers with other names
  abbrev pub other : Answers → Answers
  other answers = renamed_answers names answers

  -- values with other names
  abbrev pub all_renamed : List Value → List Value
  all_renamed vs = map (renamed names) vs

  -- an evaluation with other names
  abbrev pub others : {A : Type 0} → (A → A) → Evaluated A → Evaluated A
  others f (Asks action sort) = Asks (renamed_action names action) sort
  others f (Results v rest) = Results (f v) (other rest)
  others f (Throws kind rest) = Throws kind (other rest)

  -- an evaluation and its renamed one
  abbrev pub Renames : {A : Type 0} → (A → A) → Evaluated A → Evaluated A → Type 0
  Renames f x x' = x' ≡ others f x

  -- the reference of a renamed value is the renamed reference
  pub reference_other : (v : Value) → reference_of (renamed names v) ≡ names (reference_of v)
  reference_other (Int z) = sym is.null
  reference_other (Boolean b) = sym is.null
  reference_other (Reference n) = refl
  reference_other (Pair n m) = refl

  -- the boolean of a value stays
  pub truth_other : (v : Value) → truth_of (renamed names v) ≡ truth_of v
  truth_other (Int z) = refl
  truth_other (Boolean b) = refl
  truth_other (Reference n) = refl
  truth_other (Pair n m) = refl

  -- the int of a value stays
  pub int_other : (v : Value) → int_of (renamed names v) ≡ int_of v
  int_other (Int z) = refl
  int_other (Boolean b) = refl
  int_other (Reference n) = refl
  int_other (Pair n m) = refl

  pub mark_other : (v : Value) → mark_of (renamed names v) ≡ mark_of v
  mark_other (Int z) = refl
  mark_other (Boolean b) = refl
  mark_other (Reference n) = refl
  mark_other (Pair n m) = refl

  pub pair_other : (r m : Value) → pair_of (renamed names r) (renamed names m) ≡ renamed names (pair_of r m)
  pair_other r m = ap (λ n. Pair n (truth_of (renamed names m))) (reference_other r) ∙
      ap (Pair (names (reference_of r))) (truth_other m)

  -- the value for none stays
  pub nothing_other : renamed names nothing ≡ nothing
  nothing_other = ap Reference is.null

  pub both_ways : (a b : Bool) → (a ≡ true → b ≡ true) → (b ≡ true → a ≡ true) → a ≡ b
  both_ways true true f g = refl
  both_ways false false f g = refl
  both_ways true false f g = sym (f refl)
  both_ways false true f g = g refl

  pub nat_other : (m n : ℕ) → nat_eq (names m) (names n) ≡ nat_eq m n
  nat_other m n = both_ways (nat_eq (names m) (names n)) (nat_eq m n)
      (λ e. let k : names m ≡ names n = grind (arith, common_steps, e) in
      subst (λ z. nat_eq m z ≡ true) (is.apart m n k) (grind (arith, common_steps)))
      (λ e. let k : m ≡ n = grind (arith, common_steps, e) in
      subst (λ z. nat_eq (names m) (names z) ≡ true) k (grind (arith, common_steps)))

  -- a constant stays
  pub constant_other : (v : Value) → IsConstant v → renamed names v ≡ v
  constant_other (Int z) h = refl
  constant_other (Boolean b) h = refl
  constant_other (Reference n) h = subst (λ k. Reference (names k) ≡ Reference k) (sym h) (ap Reference is.null)
  constant_other (Pair n m) h = absurd h

  pub slot_other : (vs : List Value) (n : ℕ) →
      slice_index_or (all_renamed vs) n nothing ≡ renamed names (slice_index_or vs n nothing)
  slot_other vs n = ap (slice_index_or (all_renamed vs) n) (sym nothing_other) ∙ get_or-map (renamed names) vs n nothing

  pub same_other : (x y : Value) → same (renamed names x) (renamed names y) ≡ same x y
  same_other (Int x) (Int y) = refl
  same_other (Int x) (Boolean b) = refl
  same_other (Int x) (Reference n) = refl
  same_other (Int x) (Pair n m) = refl
  same_other (Boolean true) (Int y) = refl
  same_other (Boolean true) (Boolean b) = refl
  same_other (Boolean true) (Reference n) = refl
  same_other (Boolean true) (Pair n m) = refl
  same_other (Boolean false) (Int y) = refl
  same_other (Boolean false) (Boolean b) = refl
  same_other (Boolean false) (Reference n) = refl
  same_other (Boolean false) (Pair n m) = refl
  same_other (Reference k) (Int y) = refl
  same_other (Reference k) (Boolean b) = refl
  same_other (Reference k) (Reference n) = nat_other k n
  same_other (Reference k) (Pair n m) = refl
  same_other (Pair k l) (Int y) = refl
  same_other (Pair k l) (Boolean b) = refl
  same_other (Pair k l) (Reference n) = refl
  same_other (Pair k l) (Pair n m) = refl

  -- one lemma for each word of the definitions
  pub results_other : {A : Type 0} (f : A → A) (v v' : A) (rest : Answers) →
      v' ≡ f v →
      Renames f (Results v rest) (Results v' (other rest))
  results_other f v v' rest e = ap (λ w. Results w (other rest)) e

  -- one action with other names
  pub ask_other : (a a' : Action Value) (s : Sort) (answers : Answers) →
      a' ≡ renamed_action names a →
      Renames (renamed names) (ask a s answers) (ask a' s (other answers))
  ask_other a a' s [] e = ap (λ b. Asks b s) e
  ask_other a a' s (Done ∷ rest) e = ap (λ v. Results v (other rest)) (sym nothing_other)
  ask_other a a' s (Gives v ∷ rest) e = refl
  ask_other a a' s (Fails kind ∷ rest) e = refl

  -- one action that is always done, with other names
  pub tell_other : (a a' : Action Value) (answers : Answers) →
      a' ≡ renamed_action names a →
      Renames (renamed names) (tell a answers) (tell a' (other answers))
  tell_other a a' [] e = ap (λ b. Asks b NoValue) e
  tell_other a a' (answer ∷ rest) e = ap (λ v. Results v (other rest)) (sym nothing_other)

  pub bind_other : {A B : Type 0} (f : A → A) (h : B → B) (x : Evaluated A) (go go' : A → Answers → Evaluated B) →
      ((v : A) (rest : Answers) → Renames h (go v rest) (go' (f v) (other rest))) →
      Renames h (with_value x go) (with_value (others f x) go')
  bind_other f h (Asks action sort) go go' e = refl
  bind_other f h (Results v rest) go go' e = e v rest
  bind_other f h (Throws kind rest) go go' e = refl

  -- one expression and then another, with other names
  pub then_other : {A B : Type 0} (f : A → A) (h : B → B) (x x' : Evaluated A) (go go' : A → Answers → Evaluated B) →
      Renames f x x' →
      ((v : A) (rest : Answers) → Renames h (go v rest) (go' (f v) (other rest))) →
      Renames h (with_value x go) (with_value x' go')
  then_other f h x x' go go' e k = ap (λ y. with_value y go') e ∙ bind_other f h x go go' k

  pub if_other : {A : Type 0} (f : A → A) (b b' : Bool) (x x' y y' : Evaluated A) →
      b' ≡ b →
      Renames f x x' →
      Renames f y y' →
      Renames f (cond b x y) (cond b' x' y')
  if_other f true b' x x' y y' e h k = ap (λ c. cond c x' y') e ∙ h
  if_other f false b' x x' y y' e h k = ap (λ c. cond c x' y') e ∙ k

  pub null_test : (n n' : ℕ) → n' ≡ names n → nat_eq n' 0 ≡ nat_eq n 0
  null_test n n' e = ap (λ k. nat_eq k 0) e ∙ subst (λ z. nat_eq (names n) z ≡ nat_eq n 0) is.null (nat_other n 0)

  -- an expression unless a reference is null, with other names
  pub null_other : {A : Type 0} (f : A → A) (n n' : ℕ) (rest : Answers) (x x' : Evaluated A) →
      n' ≡ names n →
      Renames f x x' →
      Renames f (unless_null n rest x) (unless_null n' (other rest) x')
  null_other f n n' rest x x' e h =
      if_other f (nat_eq n 0) (nat_eq n' 0) (Throws NullPointer rest) (Throws NullPointer (other rest)) x x'
      (null_test n n' e) refl h

  -- an action on an object, with other names
  pub on_object_other : (o : Value) (a a' : Action Value) (s : Sort) (rest : Answers) →
      a' ≡ renamed_action names a →
      Renames (renamed names) (on_object o a s rest) (on_object (renamed names o) a' s (other rest))
  on_object_other o a a' s rest e = null_other (renamed names) (reference_of o) (reference_of (renamed names o)) rest
      (ask a s rest) (ask a' s (other rest)) (reference_other o) (ask_other a a' s rest e)

  pub zero_other : (op : Operator) (y : Value) → divides_by_zero op (renamed names y) ≡ divides_by_zero op y
  zero_other operators.Divide y = ap (λ z. int_eq z (pos 0)) (int_other y)
  zero_other operators.Remainder y = ap (λ z. int_eq z (pos 0)) (int_other y)
  zero_other operators.Add y = refl
  zero_other operators.Subtract y = refl
  zero_other operators.Multiply y = refl
  zero_other operators.Less y = refl
  zero_other operators.LessEqual y = refl
  zero_other operators.Greater y = refl
  zero_other operators.GreaterEqual y = refl
  zero_other operators.Equal y = refl
  zero_other operators.NotEqual y = refl

  pub ints_other : {A : Type 0} (f : ℤ → ℤ → A) (x y : Value) →
      f (int_of (renamed names x)) (int_of (renamed names y)) ≡ f (int_of x) (int_of y)
  ints_other f x y = ap (λ a. f a (int_of (renamed names y))) (int_other x) ∙ ap (f (int_of x)) (int_other y)

  pub operated_other : (op : Operator) (x y : Value) →
      operated op (renamed names x) (renamed names y) ≡ renamed names (operated op x y)
  operated_other operators.Add x y = ints_other (λ a b. wrapped (a +ℤ b)) x y
  operated_other operators.Subtract x y = ints_other (λ a b. wrapped (a -ℤ b)) x y
  operated_other operators.Multiply x y = ints_other (λ a b. wrapped (a *ℤ b)) x y
  operated_other operators.Divide x y = ints_other (λ a b. Int (int_wrapping_div w32 a b)) x y
  operated_other operators.Remainder x y = ints_other (λ a b. wrapped (int_rem a b)) x y
  operated_other operators.Less x y = ints_other (λ a b. Boolean (int_lt a b)) x y
  operated_other operators.LessEqual x y = ints_other (λ a b. Boolean (int_le a b)) x y
  operated_other operators.Greater x y = ints_other (λ a b. Boolean (int_lt b a)) x y
  operated_other operators.GreaterEqual x y = ints_other (λ a b. Boolean (int_le b a)) x y
  operated_other operators.Equal x y = ap Boolean (same_other x y)
  operated_other operators.NotEqual x y = ap (λ b. Boolean (not b)) (same_other x y)

  -- an operator, with other names
  pub operate_other : (op : Operator) (x y : Value) (rest : Answers) →
      Renames (renamed names) (operate op x y rest) (operate op (renamed names x) (renamed names y) (other rest))
  operate_other op x y rest =
      if_other (renamed names) (divides_by_zero op y) (divides_by_zero op (renamed names y)) (Throws Arithmetic rest)
      (Throws Arithmetic (other rest)) (Results (operated op x y) rest)
      (Results (operated op (renamed names x) (renamed names y)) (other rest)) (zero_other op y) refl
      (results_other (renamed names) (operated op x y) (operated op (renamed names x) (renamed names y)) rest
      (operated_other op x y))

  -- what calls do
  abbrev pub CallsRename : Calls → Type 0
  CallsRename calls = (m : ℕ) (vs : List Value) (rest : Answers) →
      Renames (renamed names) (calls m vs rest) (calls m (all_renamed vs) (other rest))

  pub get_both_other : (c m m' a a' : ℕ) (rest : Answers) →
      m' ≡ names m →
      a' ≡ names a →
      Renames (renamed names) (get_both c m a rest) (get_both c m' a' (other rest))
  get_both_other c m m' a a' rest e k =
      then_other (renamed names) (renamed names) _ _ _ _ (ask_other (ReadPair m) (ReadPair m') (PairOf c) rest
      (ap ReadPair e)) (λ pair rest.
      null_other (renamed names) a a' rest _ _ k (
      then_other (renamed names) (renamed names) _ _ _ _
      (ask_other (WriteItem a (pos 0) (Boolean (mark_of pair)))
      (WriteItem a' (pos 0) (Boolean (mark_of (renamed names pair)))) NoValue rest
      (ap (λ n. WriteItem n (pos 0) (Boolean (mark_of (renamed names pair)))) k ∙
      ap (λ b. WriteItem (names a) (pos 0) (Boolean b)) (mark_other pair)))
      (λ v rest. results_other (renamed names) (Reference (reference_of pair))
      (Reference (reference_of (renamed names pair))) rest (ap Reference (reference_other pair)))))

  -- an action that is asked for on an object
  pub asked_other : (on : ℕ → Action Value) (o : Value) (s : Sort) (rest : Answers) →
      ((n : ℕ) → on (names n) ≡ renamed_action names (on n)) →
      Renames (renamed names) (ask (on (reference_of o)) s rest)
      (ask (on (reference_of (renamed names o))) s (other rest))
  asked_other on o s rest e = ask_other (on (reference_of o)) (on (reference_of (renamed names o))) s rest
      (ap on (reference_other o) ∙ e (reference_of o))

  pub argument_other : (vs : List Value) (n : ℕ) → argument (all_renamed vs) n ≡ renamed names (argument vs n)
  argument_other vs n = slot_other vs n

  pub pairs_other : (vs : List Value) (i j : ℕ) →
      pair_of (argument (all_renamed vs) i) (argument (all_renamed vs) j) ≡ renamed names
      (pair_of (argument vs i) (argument vs j))
  pairs_other vs i j =
      ap (λ v. pair_of v (argument (all_renamed vs) j)) (argument_other vs i)
      ∙ ap (pair_of (renamed names (argument vs i))) (argument_other vs j)
      ∙ pair_other (argument vs i) (argument vs j)

  pub call_other : (calls : Calls) →
      CallsRename calls →
      (m : Called) (o : Value) (vs : List Value) (rest : Answers) →
      Renames (renamed names) (call calls m o vs rest) (call calls m (renamed names o) (all_renamed vs) (other rest))
  call_other calls k (called.Method m) o vs rest = k m (o ∷ vs) rest
  call_other calls k called.LockIt o vs rest = asked_other Lock o NoValue rest (λ n. refl)
  call_other calls k called.UnlockIt o vs rest = asked_other Unlock o NoValue rest (λ n. refl)
  call_other calls k called.TryIt o vs rest = asked_other TryLock o (ValueOf types.Boolean) rest (λ n. refl)
  call_other calls k called.AskIt o vs rest = asked_other IsHeld o (ValueOf types.Boolean) rest (λ n. refl)
  call_other calls k (called.HoldMonitor c) o vs rest = asked_other LockMonitor o NoValue rest (λ n. refl)
  call_other calls k (called.FreeMonitor c) o vs rest = asked_other UnlockMonitor o NoValue rest (λ n. refl)
  call_other calls k (called.GetReference c) o vs rest =
      then_other (renamed names) (renamed names) _ _ _ _ (asked_other ReadPair o (PairOf c) rest (λ n. refl))
      (λ pair rest.
      results_other (renamed names) (Reference (reference_of pair)) (Reference (reference_of (renamed names pair))) rest
      (ap Reference (reference_other pair)))
  call_other calls k (called.IsMarked c) o vs rest =
      then_other (renamed names) (renamed names) _ _ _ _ (asked_other ReadPair o (PairOf c) rest (λ n. refl))
      (λ pair rest.
      results_other (renamed names) (Boolean (mark_of pair)) (Boolean (mark_of (renamed names pair))) rest
      (ap Boolean (mark_other pair)))
  call_other calls k (called.GetBoth c) o vs rest =
      get_both_other c (reference_of o) (reference_of (renamed names o)) (reference_of (argument vs 0))
      (reference_of (argument (all_renamed vs) 0)) rest (reference_other o)
      (ap reference_of (argument_other vs 0) ∙ reference_other (argument vs 0))
  call_other calls k called.SetBoth o vs rest =
      ask_other _ _ NoValue rest (ap (λ p. SetPair (reference_of (renamed names o)) p) (pairs_other vs 0 1) ∙
      ap (λ n. SetPair n (renamed names (pair_of (argument vs 0) (argument vs 1)))) (reference_other o))
  call_other calls k called.CompareAndSet o vs rest =
      ask_other _ _ (ValueOf types.Boolean) rest (
      ap (λ p. SwapPair (reference_of (renamed names o)) p (pair_of (argument (all_renamed vs) 1)
      (argument (all_renamed vs) 3))) (pairs_other vs 0 2)
      ∙ ap (λ p. SwapPair (reference_of (renamed names o)) (renamed names (pair_of (argument vs 0) (argument vs 2))) p)
      (pairs_other vs 1 3)
      ∙ ap (λ n. SwapPair n (renamed names (pair_of (argument vs 0) (argument vs 2)))
      (renamed names (pair_of (argument vs 1) (argument vs 3)))) (reference_other o))
  call_other calls k called.Attempt o vs rest =
      ask_other _ _ (ValueOf types.Boolean) rest (
      ap (λ b. AttemptMark (reference_of (renamed names o)) (reference_of (argument (all_renamed vs) 0)) b)
      (ap truth_of (argument_other vs 1) ∙ truth_other (argument vs 1))
      ∙ ap (λ r. AttemptMark (reference_of (renamed names o)) r (truth_of (argument vs 1)))
      (ap reference_of (argument_other vs 0) ∙ reference_other (argument vs 0))
      ∙ ap (λ n. AttemptMark n (names (reference_of (argument vs 0))) (truth_of (argument vs 1))) (reference_other o))

  -- one line for each form
  module _ (classes : List Class) (calls : Calls) (k : CallsRename calls) where
    mutual
      -- each expression whose constants name no object, with other names
      pub evaluate_other : (e : Expression) →
          HasConstants e →
          (ls : List Value) (qs : Answers) →
          Renames (renamed names) (evaluate classes calls e ls qs)
          (evaluate classes calls e (all_renamed ls) (other qs))
      evaluate_other (Literal v) h ls qs = results_other (renamed names) v v qs (sym (constant_other v h))
      evaluate_other (Slot n) h ls qs = results_other (renamed names) _ _ qs (slot_other ls n)
      evaluate_other (Field e c f) h ls qs =
          then_other (renamed names) (renamed names) _ _ _ _ (evaluate_other e h ls qs) (λ o rest.
          on_object_other o _ _ (field_of classes c f) rest (ap (λ n. ReadField n f) (reference_other o)))
      evaluate_other (Item a i) h ls qs =
          then_other (renamed names) (renamed names) _ _ _ _ (evaluate_other a h.0 ls qs) (λ o rest.
          then_other (renamed names) (renamed names) _ _ _ _ (evaluate_other i h.1 ls rest) (λ n rest.
          on_object_other o _ _ (ValueOf types.Boolean) rest
          (ap (λ r. ReadItem r (int_of (renamed names n))) (reference_other o) ∙
          ap (ReadItem (names (reference_of o))) (int_other n))))
      evaluate_other (Negate e) h ls qs =
          then_other (renamed names) (renamed names) _ _ _ _ (evaluate_other e h ls qs) (λ v rest.
          results_other (renamed names) (wrapped (neg_ℤ (int_of v))) _ rest (ap (λ z. wrapped (neg_ℤ z)) (int_other v)))
      evaluate_other (Not e) h ls qs =
          then_other (renamed names) (renamed names) _ _ _ _ (evaluate_other e h ls qs) (λ v rest.
          results_other (renamed names) (Boolean (not (truth_of v))) _ rest (ap (λ b. Boolean (not b)) (truth_other v)))
      evaluate_other (Binary op a b) h ls qs =
          then_other (renamed names) (renamed names) _ _ _ _ (evaluate_other a h.0 ls qs) (λ x rest.
          then_other (renamed names) (renamed names) _ _ _ _ (evaluate_other b h.1 ls rest)
          (λ y rest. operate_other op x y rest))
      evaluate_other (And a b) h ls qs =
          then_other (renamed names) (renamed names) _ _ _ _ (evaluate_other a h.0 ls qs) (λ x rest.
          if_other (renamed names) _ _ _ _ _ _ (truth_other x) (evaluate_other b h.1 ls rest) refl)
      evaluate_other (Or a b) h ls qs =
          then_other (renamed names) (renamed names) _ _ _ _ (evaluate_other a h.0 ls qs) (λ x rest.
          if_other (renamed names) _ _ _ _ _ _ (truth_other x) refl (evaluate_other b h.1 ls rest))
      evaluate_other (Call e m es) h ls qs =
          then_other (renamed names) (renamed names) _ _ _ _ (evaluate_other e h.0 ls qs) (λ o rest.
          then_other all_renamed (renamed names) _ _ _ _ (arguments_other es h.1 ls rest) (λ vs rest.
          null_other (renamed names) (reference_of o) (reference_of (renamed names o)) rest _ _ (reference_other o)
          (call_other calls k m o vs rest)))
      evaluate_other (MakeObject c es) h ls qs =
          then_other (renamed names) (renamed names) _ _ _ _ (ask_other (New c) (New c) (NewOf (types.Class c)) qs refl)
          (λ o rest.
          then_other all_renamed (renamed names) _ _ _ _ (arguments_other es h ls rest) (λ vs rest.
          then_other (renamed names) (renamed names) _ _ _ _ (k (constructor_of classes c) (o ∷ vs) rest)
          (λ v rest. refl)))
      evaluate_other MakeLock h ls qs = ask_other NewLock NewLock (NewOf types.Lock) qs refl
      evaluate_other (MakeMarkable c es) h ls qs =
          then_other all_renamed (renamed names) _ _ _ _ (arguments_other es h ls qs) (λ vs rest.
          ask_other _ _ (NewOf (types.Markable c)) rest (ap NewMarkable (pairs_other vs 0 1)))
      evaluate_other (MakeArray e) h ls qs =
          then_other (renamed names) (renamed names) _ _ _ _ (evaluate_other e h ls qs) (λ n rest.
          if_other (renamed names) _ _ _ _ _ _ (ap (λ z. int_lt z (pos 0)) (int_other n)) refl
          (ask_other _ _ (NewOf types.BooleanArray) rest (ap NewArray (int_other n))))

      pub arguments_other : (es : Expressions) →
          HaveConstants es →
          (ls : List Value) (qs : Answers) →
          Renames all_renamed (arguments classes calls es ls qs)
          (arguments classes calls es (all_renamed ls) (other qs))
      arguments_other End h ls qs = refl
      arguments_other (More e es) h ls qs =
          then_other (renamed names) all_renamed _ _ _ _ (evaluate_other e h.0 ls qs) (λ v rest.
          then_other all_renamed all_renamed _ _ _ _ (arguments_other es h.1 ls rest) (λ vs rest. refl))
