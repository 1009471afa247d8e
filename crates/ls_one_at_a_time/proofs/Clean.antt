-- The course of a clean body, on answers that give no reference to the object: it asks for safe actions, and results
-- in no reference to the object.
use Rattle.std.proofs.Common.{◌≡◌, ◌≢◌, ◌⊎◌, inl, inr, ℕ, zero, suc, Bool, true, false, cond, List, [], ◌∷◌, ◌++◌}
use Rattle.std.proofs.Common.{length, Option, Some, None, map, drop, refl, sym, ◌∙◌, subst, slice_set}
use Rattle.std.proofs.Common.{get_or-set_other}
use Rattle.std.specs.Prelude.{nat_eq, pos, int_lt, slice_get, slice_index_or}
use Rattle.std.proofs.lemmas.Bool.{cases_eq}
use Rattle.ls_events.specs.declared.kind.Kind.{Kind}
use Rattle.ls_events.specs.declared.kind.Kind.TheVariants.{NullPointer, Arithmetic, NegativeArraySize, StackOverflow}
use Rattle.ls_events.specs.declared.action.Action.{Action}
use Rattle.ls_events.specs.declared.action.Action.TheVariants.{Turn, Enter}
use Rattle.ls_events.specs.declared.action.Answer.TheVariants.{Done, Gives, Fails}
use Rattle.ls_events.specs.declared.value.Value.{Value}
use Rattle.ls_events.specs.declared.value.ValueType.{ValueType}
use Rattle.ls_events.specs.declared.value.ValueType.TheVariants as types
use Rattle.ls_checked.specs.declared.tree.Operator.{Operator}
use Rattle.ls_checked.specs.declared.tree.Operator.TheVariants as ops
use Rattle.ls_checked.specs.declared.tree.Called.{Called}
use Rattle.ls_checked.specs.declared.tree.Called.TheVariants.{Method as OfMethod, LockIt, UnlockIt, TryIt, AskIt}
use Rattle.ls_checked.specs.declared.tree.Called.TheVariants.{HoldMonitor, FreeMonitor, GetReference, IsMarked}
use Rattle.ls_checked.specs.declared.tree.Called.TheVariants.{GetBoth, SetBoth, CompareAndSet, Attempt}
use Rattle.ls_checked.specs.CheckedTree.{Class, Method, File, Expression, Literal, Slot, Field, Item, Negate, Not}
use Rattle.ls_checked.specs.CheckedTree.{Binary, And, Or, Call, MakeObject, MakeLock, MakeMarkable, MakeArray}
use Rattle.ls_checked.specs.CheckedTree.{Expressions, End, More, Statement, Block, SetSlot, SetField, AddField}
use Rattle.ls_checked.specs.CheckedTree.{SetItem, Evaluate, If, While, Break, Continue, ReturnNothing, ReturnValue}
use Rattle.ls_checked.specs.CheckedTree.{Try, Statements, Then}
use Rattle.ls_checked.specs.CheckedTree as checked
use Rattle.ls_meaning.specs.declared.sort.Sort.{Sort}
use Rattle.ls_meaning.specs.declared.sort.Sort.TheVariants.{NoValue}
use Rattle.ls_meaning.specs.declared.completion.Completion.{Completion}
use Rattle.ls_meaning.specs.declared.completion.Completion.TheVariants.{Normal, Broke, Continued, Returned, Threw}
use Rattle.ls_meaning.specs.Values.{truth_of, int_of, divides_by_zero, operated, nothing, reference_of, start_of}
use Rattle.ls_meaning.specs.Course.{Answers, Evaluated, Asks, Results, Throws, ask, tell, with_value, unless_null}
use Rattle.ls_meaning.specs.Expressions.{Calls, evaluate, arguments, call, operate, constructor_of}
use Rattle.ls_meaning.specs.Statements.{Executed, AsksFor, Completes, on_value, then_do, finally_do, turn_back}
use Rattle.ls_meaning.specs.Statements.{after_body, one_turn, turns, execute, execute_all}
use Rattle.ls_meaning.specs.Methods.{answer_without, leave, run_body, frame, invoke}
use Rattle.ls_one_at_a_time.specs.Clean.{AllOther, AreClean, AreCleanMethods, IsClean, IsOperation, IsOther}
use Rattle.ls_one_at_a_time.specs.Clean.{IsOwn, IsPlace, IsSafe, IsThis, IsValueSlot, RunClean, RunsClean}

module _ (o f : ℕ) (set : 0 ≢ o) where
  -- ---- values

  -- a value that is no reference isn't one to the object
  pub null_other : (v : Value) → reference_of v ≡ 0 → IsOther o v
  null_other v e = record { is = λ p. set (sym e ∙ p) }

  pub operated_other : (op : Operator) (a b : Value) → IsOther o (operated op a b)
  operated_other ops.Add a b = null_other _ refl
  operated_other ops.Subtract a b = null_other _ refl
  operated_other ops.Multiply a b = null_other _ refl
  operated_other ops.Divide a b = null_other _ refl
  operated_other ops.Remainder a b = null_other _ refl
  operated_other ops.Less a b = null_other _ refl
  operated_other ops.LessEqual a b = null_other _ refl
  operated_other ops.Greater a b = null_other _ refl
  operated_other ops.GreaterEqual a b = null_other _ refl
  operated_other ops.Equal a b = null_other _ refl
  operated_other ops.NotEqual a b = null_other _ refl

  start_other : (t : ValueType) → IsOther o (start_of t)
  start_other types.Int = null_other _ refl
  start_other types.Boolean = null_other _ refl
  start_other _ = null_other _ refl

  -- none of the values is a reference to the object
  abbrev pub AreOther : List Value → Type 0
  AreOther vs = (n : ℕ) → IsOther o (slice_index_or vs n nothing)

  none_other : AreOther []
  none_other n = null_other nothing refl

  more_other : (v : Value) (vs : List Value) → IsOther o v → AreOther vs → AreOther (v ∷ vs)
  more_other v vs h k zero = h
  more_other v vs h k (suc n) = k n

  -- ---- expressions

  module _ {A : Type 0} (P : A → Type 0) where
    abbrev pub Told : Evaluated A → Type 0
    Told (Asks a s) = IsSafe o f a
    Told (Results v rest) = P v × AllOther o rest
    Told (Throws k rest) = AllOther o rest

    -- an outcome of an expression that asks for safe actions alone, and results in another value
    pub record IsTold (x : Evaluated A) : Type 0 where
      pub is : Told x

    pub record IsSafeCourse (g : Answers → Evaluated A) : Type 0 where
      pub on : (q : Answers) → AllOther o q → IsTold (g q)

  abbrev pub IsValueCourse : (Answers → Evaluated Value) → Type 0
  IsValueCourse = IsSafeCourse (IsOther o)

  told_with : {A B : Type 0} (P : A → Type 0) (Q : B → Type 0) (x : Evaluated A) (go : A → Answers → Evaluated B) →
      IsTold P x → ((v : A) → P v → IsSafeCourse Q (go v)) → IsTold Q (with_value x go)
  told_with P Q (Asks a s) go h k = record { is = h.is }
  told_with P Q (Results v rest) go h k = (k v h.is.0).on rest h.is.1
  told_with P Q (Throws kind rest) go h k = record { is = h.is }

  with_safe : {A B : Type 0} (P : A → Type 0) (Q : B → Type 0) (g : Answers → Evaluated A)
      (go : A → Answers → Evaluated B) → IsSafeCourse P g → ((v : A) → P v → IsSafeCourse Q (go v)) →
      IsSafeCourse Q (λ q. with_value (g q) go)
  with_safe P Q g go h k = record { on = λ q c. told_with P Q (g q) go (h.on q c) k }

  abbrev V : Value → Type 0
  V = IsOther o

  asked_told : (a : Action Value) (s : Sort) (q : Answers) → IsSafe o f a → AllOther o q → IsTold V (ask a s q)
  asked_told a s [] safe c = record { is = safe }
  asked_told a s (Done ∷ rest) safe c = record { is = (null_other nothing refl, c.1) }
  asked_told a s (Gives v ∷ rest) safe c = record { is = (c.0, c.1) }
  asked_told a s (Fails k ∷ rest) safe c = record { is = c.1 }

  asked : (a : Action Value) (s : Sort) → IsSafe o f a → IsValueCourse (ask a s)
  asked a s safe = record { on = λ q c. asked_told a s q safe c }

  told_told : (a : Action Value) (q : Answers) → IsSafe o f a → AllOther o q → IsTold V (tell a q)
  told_told a [] safe c = record { is = safe }
  told_told a (x ∷ rest) safe c = record { is = (null_other nothing refl, c.1) }

  told : (a : Action Value) → IsSafe o f a → IsValueCourse (tell a)
  told a safe = record { on = λ q c. told_told a q safe c }

  results : {A : Type 0} (P : A → Type 0) (v : A) → P v → IsSafeCourse P (λ q. Results v q)
  results P v h = record { on = λ q c. record { is = (h, c) } }

  throws : {A : Type 0} (P : A → Type 0) (k : Kind) → IsSafeCourse P (λ q. Throws k q)
  throws P k = record { on = λ q c. record { is = c } }

  either : {A : Type 0} (P : A → Type 0) (b : Bool) (g h : Answers → Evaluated A) → IsSafeCourse P g →
      IsSafeCourse P h → IsSafeCourse P (λ q. cond b (g q) (h q))
  either P true g h c d = c
  either P false g h c d = d

  null_safe : {A : Type 0} (P : A → Type 0) (m : ℕ) (g : Answers → Evaluated A) → IsSafeCourse P g →
      IsSafeCourse P (λ q. unless_null m q (g q))
  null_safe P m g h = either P (nat_eq m 0) (λ q. Throws NullPointer q) g (throws P NullPointer) h

  null_value : (v : Value) → reference_of v ≡ 0 → IsValueCourse (λ q. Results v q)
  null_value v e = results V v (null_other v e)

  operate_safe : (op : Operator) (a b : Value) → IsValueCourse (operate op a b)
  operate_safe op a b = either V (divides_by_zero op b) (λ q. Throws Arithmetic q) (λ q. Results (operated op a b) q)
      (throws V Arithmetic) (results V (operated op a b) (operated_other op a b))

  -- calls on the object, and on others
  pub record AreSafeCalls (OnThis Helps : ℕ → Type 0) (calls : Calls) : Type 0 where
    pub own : (m : ℕ) → OnThis m → (v : Value) (vs : List Value) → AreOther vs → IsValueCourse (calls m (v ∷ vs))
    pub others : (m : ℕ) → Helps m → (vs : List Value) → AreOther vs → IsValueCourse (calls m vs)

  -- locals without references to the object, but for `this`
  abbrev pub AreLocals : Bool → List Value → Type 0
  AreLocals this ls = (n : ℕ) → IsValueSlot this n → IsOther o (slice_index_or ls n nothing)

  module _ (OnThis Helps : ℕ → Type 0) (classes : List Class) (calls : Calls) (safe : AreSafeCalls OnThis Helps calls)
      (this : Bool) where
    -- what is proved of an expression
    abbrev pub C : Expression → Type 0
    C = IsClean OnThis Helps classes f this

    call_other : (c : Called) → IsOperation Helps c → (v : Value) → V v → (vs : List Value) →
        AreOther vs → IsValueCourse (call calls c v vs)
    call_other (OfMethod m) may v h vs k = safe.others m may (v ∷ vs) (more_other v vs h k)
    call_other LockIt may v h vs k = absurd may
    call_other UnlockIt may v h vs k = absurd may
    call_other TryIt may v h vs k = absurd may
    call_other AskIt may v h vs k = absurd may
    call_other (HoldMonitor c) may v h vs k = absurd may
    call_other (FreeMonitor c) may v h vs k = absurd may
    call_other (GetReference c) may v h vs k = with_safe V V _ _ (asked _ _ tt)
        (λ p i. results V _ (record { is = i.is }))
    call_other (IsMarked c) may v h vs k = with_safe V V _ _ (asked _ _ tt) (λ p i. null_value _ refl)
    call_other (GetBoth c) may v h vs k = with_safe V V _ _ (asked _ _ tt)
        (λ p i. null_safe V _ _ (with_safe V V _ _ (asked _ _ (null_other _ refl))
        (λ u j. results V _ (record { is = i.is }))))
    call_other SetBoth may v h vs k = asked _ _ (record { is = (k 0).is })
    call_other CompareAndSet may v h vs k = asked _ _ (record { is = (k 1).is })
    call_other Attempt may v h vs k = asked _ _ (k 0).is

    call_own : (c : Called) → IsOwn OnThis c → (v : Value) (vs : List Value) → AreOther vs →
        IsValueCourse (call calls c v vs)
    call_own (OfMethod m) may v vs k = safe.own m may v vs k
    call_own LockIt may v vs k = absurd may
    call_own UnlockIt may v vs k = absurd may
    call_own TryIt may v vs k = absurd may
    call_own AskIt may v vs k = absurd may
    call_own (HoldMonitor c) may v vs k = absurd may
    call_own (FreeMonitor c) may v vs k = absurd may
    call_own (GetReference c) may v vs k = absurd may
    call_own (IsMarked c) may v vs k = absurd may
    call_own (GetBoth c) may v vs k = absurd may
    call_own SetBoth may v vs k = absurd may
    call_own CompareAndSet may v vs k = absurd may
    call_own Attempt may v vs k = absurd may

    -- anything may be the value of `this`
    abbrev Any : Value → Type 0
    Any v = Unit {0}

    this_safe : (e : Expression) → IsThis this e → (ls : List Value) →
        IsSafeCourse Any (evaluate classes calls e ls)
    this_safe (Slot zero) t ls = results Any _ tt
    this_safe (Slot (suc n)) t ls = absurd t
    this_safe (Literal v) t ls = absurd t
    this_safe (Field e c i) t ls = absurd t
    this_safe (Item a i) t ls = absurd t
    this_safe (Negate e) t ls = absurd t
    this_safe (Not e) t ls = absurd t
    this_safe (Binary op a b) t ls = absurd t
    this_safe (And a b) t ls = absurd t
    this_safe (Or a b) t ls = absurd t
    this_safe (Call e c es) t ls = absurd t
    this_safe (MakeObject c es) t ls = absurd t
    this_safe MakeLock t ls = absurd t
    this_safe (MakeMarkable c es) t ls = absurd t
    this_safe (MakeArray e) t ls = absurd t

    mutual
      pub evaluate_safe : (e : Expression) → C e → (ls : List Value) → AreLocals this ls →
          IsValueCourse (evaluate classes calls e ls)
      evaluate_safe (Literal v) p ls k = null_value v p
      evaluate_safe (Slot i) p ls k = results V _ (k i p)
      evaluate_safe (Field e c i) (inl t) ls k = with_safe Any V _ _ (this_safe e t ls)
          (λ w h. null_safe V _ _ (asked _ _ tt))
      evaluate_safe (Field e c i) (inr p) ls k = with_safe V V _ _ (evaluate_safe e p ls k)
          (λ w h. null_safe V _ _ (asked _ _ tt))
      evaluate_safe (Item a i) p ls k = with_safe V V _ _ (evaluate_safe a p.0 ls k)
          (λ w h. with_safe V V _ _ (evaluate_safe i p.1 ls k) (λ m j. null_safe V _ _ (asked _ _ tt)))
      evaluate_safe (Negate e) p ls k = with_safe V V _ _ (evaluate_safe e p ls k) (λ v h. null_value _ refl)
      evaluate_safe (Not e) p ls k = with_safe V V _ _ (evaluate_safe e p ls k) (λ v h. null_value _ refl)
      evaluate_safe (Binary op a b) p ls k = with_safe V V _ _ (evaluate_safe a p.0 ls k)
          (λ x h. with_safe V V _ _ (evaluate_safe b p.1 ls k) (λ y j. operate_safe op x y))
      evaluate_safe (And a b) p ls k = with_safe V V _ _ (evaluate_safe a p.0 ls k)
          (λ x h. either V (truth_of x) _ _ (evaluate_safe b p.1 ls k) (null_value _ refl))
      evaluate_safe (Or a b) p ls k = with_safe V V _ _ (evaluate_safe a p.0 ls k)
          (λ x h. either V (truth_of x) _ _ (null_value _ refl) (evaluate_safe b p.1 ls k))
      evaluate_safe (Call e c es) (inl t, ps) ls k = with_safe Any V _ _ (this_safe e t.0 ls)
          (λ w h. with_safe AreOther V _ _ (arguments_safe es ps ls k)
          (λ vs j. null_safe V _ _ (call_own c t.1 w vs j)))
      evaluate_safe (Call e c es) (inr t, ps) ls k = with_safe V V _ _ (evaluate_safe e t.0 ls k)
          (λ w h. with_safe AreOther V _ _ (arguments_safe es ps ls k)
          (λ vs j. null_safe V _ _ (call_other c t.1 w h vs j)))
      evaluate_safe (MakeObject c es) p ls k = with_safe V V _ _ (asked _ _ tt)
          (λ w h. with_safe AreOther V _ _ (arguments_safe es p.1 ls k)
          (λ vs j. with_safe V V _ _ (safe.others (constructor_of classes c) p.0 (w ∷ vs) (more_other w vs h j))
          (λ u i. results V w h)))
      evaluate_safe MakeLock p ls k = asked _ _ tt
      evaluate_safe (MakeMarkable c es) p ls k = with_safe AreOther V _ _ (arguments_safe es p ls k)
          (λ vs j. asked _ _ (record { is = (j 0).is }))
      evaluate_safe (MakeArray e) p ls k = with_safe V V _ _ (evaluate_safe e p ls k)
          (λ v h. either V (int_lt (int_of v) (pos 0)) (λ q. Throws NegativeArraySize q) _ (throws V NegativeArraySize)
          (asked _ _ tt))

      pub arguments_safe : (es : Expressions) → AreClean OnThis Helps classes f this es → (ls : List Value) →
          AreLocals this ls → IsSafeCourse AreOther (arguments classes calls es ls)
      arguments_safe End p ls k = results AreOther [] none_other
      arguments_safe (More e es) p ls k = with_safe V AreOther _ _ (evaluate_safe e p.0 ls k)
          (λ v h. with_safe AreOther AreOther _ _ (arguments_safe es p.1 ls k)
          (λ vs j. results AreOther (v ∷ vs) (more_other v vs h j)))

    -- ---- statements

    abbrev ReturnsOther : Completion Value → Type 0
    ReturnsOther (Returned (Some v)) = V v
    ReturnsOther _ = Unit {0}

    abbrev ToldBy : Executed → Type 0
    ToldBy (AsksFor a s) = IsSafe o f a
    ToldBy (Completes c ls rest) = ReturnsOther c × AreLocals this ls × AllOther o rest

    -- an outcome of a statement that asks for safe actions alone, and leaves other values in its locals
    pub record IsToldBy (x : Executed) : Type 0 where
      pub is : ToldBy x

    pub record IsSafeBy (g : Answers → Executed) : Type 0 where
      pub on : (q : Answers) → AllOther o q → IsToldBy (g q)

    abbrev AreSafeBy : (List Value → Answers → Executed) → Type 0
    AreSafeBy go = (ls : List Value) → AreLocals this ls → IsSafeBy (go ls)

    completes : (c : Completion Value) (ls : List Value) → ReturnsOther c → AreLocals this ls →
        IsSafeBy (λ q. Completes c ls q)
    completes c ls r k = record { on = λ q h. record { is = (r, k, h) } }

    value_told : (P : Value → Type 0) (x : Evaluated Value) (ls : List Value)
        (go : Value → Answers → Executed) → IsTold P x → AreLocals this ls → ((v : Value) → P v → IsSafeBy (go v)) →
        IsToldBy (on_value x ls go)
    value_told P (Asks a s) ls go h k g = record { is = h.is }
    value_told P (Results v rest) ls go h k g = (g v h.is.0).on rest h.is.1
    value_told P (Throws kind rest) ls go h k g = record { is = (tt, k, h.is) }

    value_safe : (g : Answers → Evaluated Value) (ls : List Value) (go : Value → Answers → Executed) →
        IsValueCourse g → AreLocals this ls → ((v : Value) → V v → IsSafeBy (go v)) →
        IsSafeBy (λ q. on_value (g q) ls go)
    value_safe g ls go h k n = record { on = λ q c. value_told V (g q) ls go (h.on q c) k n }

    then_told : (x : Executed) (go : List Value → Answers → Executed) → IsToldBy x → AreSafeBy go →
        IsToldBy (then_do x go)
    then_told (AsksFor a s) go h g = record { is = h.is }
    then_told (Completes Normal ls rest) go h g = (g ls h.is.1).on rest h.is.2
    then_told (Completes (Broke m) ls rest) go h g = record { is = h.is }
    then_told (Completes (Continued m) ls rest) go h g = record { is = h.is }
    then_told (Completes (Returned v) ls rest) go h g = record { is = h.is }
    then_told (Completes (Threw kind) ls rest) go h g = record { is = h.is }

    then_safe : (x : Answers → Executed) (go : List Value → Answers → Executed) → IsSafeBy x → AreSafeBy go →
        IsSafeBy (λ q. then_do (x q) go)
    then_safe x go h g = record { on = λ q c. then_told (x q) go (h.on q c) g }

    finally_told : (x : Executed) (go : List Value → Answers → Executed) → IsToldBy x → AreSafeBy go →
        IsToldBy (finally_do x go)
    finally_told (AsksFor a s) go h g = record { is = h.is }
    finally_told (Completes c ls rest) go h g =
        (then_safe (go ls) (λ ls r. Completes c ls r) (g ls h.is.1) (λ ls k. completes c ls h.is.0 k)).on rest h.is.2

    finally_safe : (x : Answers → Executed) (go : List Value → Answers → Executed) → IsSafeBy x → AreSafeBy go →
        IsSafeBy (λ q. finally_do (x q) go)
    finally_safe x go h g = record { on = λ q c. finally_told (x q) go (h.on q c) g }

    turn_safe : (again : List Value → Answers → Executed) → AreSafeBy again → AreSafeBy (turn_back again)
    turn_safe again g ls k = value_safe (tell Turn) ls (λ u rest. again ls rest) (told Turn tt) k (λ v h. g ls k)

    body_told : (x : Executed) (again : List Value → Answers → Executed) → IsToldBy x → AreSafeBy again →
        IsToldBy (after_body x again)
    body_told (AsksFor a s) again h g = record { is = h.is }
    body_told (Completes Normal ls rest) again h g = (turn_safe again g ls h.is.1).on rest h.is.2
    body_told (Completes (Continued zero) ls rest) again h g = (turn_safe again g ls h.is.1).on rest h.is.2
    body_told (Completes (Continued (suc m)) ls rest) again h g = record { is = h.is }
    body_told (Completes (Broke zero) ls rest) again h g = record { is = h.is }
    body_told (Completes (Broke (suc m)) ls rest) again h g = record { is = h.is }
    body_told (Completes (Returned v) ls rest) again h g = record { is = h.is }
    body_told (Completes (Threw kind) ls rest) again h g = record { is = h.is }

    body_safe : (x : Answers → Executed) (again : List Value → Answers → Executed) → IsSafeBy x → AreSafeBy again →
        IsSafeBy (λ q. after_body (x q) again)
    body_safe x again h g = record { on = λ q c. body_told (x q) again (h.on q c) g }

    either_by : (b : Bool) (g h : Answers → Executed) → IsSafeBy g → IsSafeBy h → IsSafeBy (λ q. cond b (g q) (h q))
    either_by true g h c d = c
    either_by false g h c d = d

    module _ (condition : List Value → Answers → Evaluated Value) (body : List Value → Answers → Executed)
        (tested : (ls : List Value) → AreLocals this ls → IsValueCourse (condition ls)) (done : AreSafeBy body) where
      one_turn_safe : (again : List Value → Answers → Executed) → AreSafeBy again →
          AreSafeBy (one_turn condition body again)
      one_turn_safe again g ls k = value_safe (condition ls) ls _ (tested ls k) k
          (λ v h. either_by (truth_of v) _ _ (body_safe (body ls) again (done ls k) g) (completes Normal ls tt k))

      turns_safe : (n : ℕ) → AreSafeBy (turns n condition body)
      turns_safe zero = one_turn_safe (λ ls rest. AsksFor Turn NoValue)
          (λ ls k. record { on = λ q c. record { is = tt } })
      turns_safe (suc n) = one_turn_safe (turns n condition body) (turns_safe n)

    -- a local that is assigned
    assigned : (ls : List Value) (n : ℕ) (v : Value) → V v → AreLocals this ls → AreLocals this (slice_set ls n v)
    assigned ls n v h k m slot = by_number (cases_eq m n)
      where
        own : (xs : List Value) (i : ℕ) → IsOther o (slice_index_or xs i nothing) →
            IsOther o (slice_index_or (slice_set xs i v) i nothing)
        own [] i j = j
        own (x ∷ xs) zero j = h
        own (x ∷ xs) (suc i) j = own xs i j

        by_number : (m ≡ n) ⊎ (m ≢ n) → IsOther o (slice_index_or (slice_set ls n v) m nothing)
        by_number (inl e) = subst (λ i. IsOther o (slice_index_or (slice_set ls i v) m nothing)) e (own ls m (k m slot))
        by_number (inr ne) = subst (IsOther o) (sym (get_or-set_other ls n m v nothing ne)) (k m slot)

    -- a field's place, and then what is written
    place_write : (e : Expression) (i : ℕ) → IsPlace OnThis Helps classes f this e i → (ls : List Value) →
        AreLocals this ls → (next : Value → Answers → Evaluated Value) →
        ((w : Value) → ((reference_of w ≢ o) ⊎ (i ≢ f)) → IsValueCourse (next w)) →
        IsValueCourse (λ q. with_value (evaluate classes calls e ls q) next)
    place_write e i (inl t) ls k next g = with_safe Any V _ next (this_safe e t.0 ls) (λ w h. g w (inr t.1))
    place_write e i (inr p) ls k next g = with_safe V V _ next (evaluate_safe e p ls k) (λ w h. g w (inl h.is))

    mutual
      -- a clean statement asks for safe actions alone, on answers without the object
      pub execute_safe : (s : Statement) → RunsClean OnThis Helps classes f this s →
          AreSafeBy (execute classes calls s)
      execute_safe (Block ss) p ls k = execute_all_safe ss p ls k
      execute_safe (SetSlot m e) p ls k = value_safe _ ls _ (evaluate_safe e p.1 ls k) k
          (λ v h. completes Normal (slice_set ls m v) tt (assigned ls m v h k))
      execute_safe (SetField e i v) p ls k = value_safe _ ls _
          (place_write e i p.0 ls k _
          (λ w at. with_safe V V _ _ (evaluate_safe v p.1 ls k) (λ v h. null_safe V _ _ (asked _ _ (at, h))))) k
          (λ v h. completes Normal ls tt k)
      execute_safe (AddField e i v) p ls k = value_safe _ ls _
          (place_write e i p.0 ls k _
          (λ w at. with_safe V V _ _ (null_safe V _ _ (asked _ _ tt))
          (λ a j. with_safe V V _ _ (evaluate_safe v p.1 ls k)
          (λ b h. null_safe V _ _ (asked _ _ (at, null_other _ refl)))))) k
          (λ v h. completes Normal ls tt k)
      execute_safe (SetItem a i v) p ls k = value_safe _ ls _
          (with_safe V V _ _ (evaluate_safe a p.0 ls k)
          (λ w h. with_safe V V _ _ (evaluate_safe i p.1 ls k)
          (λ n j. with_safe V V _ _ (evaluate_safe v p.2 ls k) (λ v h. null_safe V _ _ (asked _ _ h))))) k
          (λ v h. completes Normal ls tt k)
      execute_safe (Evaluate e) p ls k = value_safe _ ls _ (evaluate_safe e p ls k) k
          (λ v h. completes Normal ls tt k)
      execute_safe (If e a b) p ls k = value_safe _ ls _ (evaluate_safe e p.0 ls k) k
          (λ v h. either_by (truth_of v) _ _ (execute_safe a p.1 ls k) (execute_safe b p.2 ls k))
      execute_safe (While e s) p ls k = record {
        on = λ q c.
            (turns_safe (evaluate classes calls e) (execute classes calls s) (evaluate_safe e p.0) (execute_safe s p.1)
            (length q) ls k).on q c;
      }
      execute_safe (Break m) p ls k = completes (Broke m) ls tt k
      execute_safe (Continue m) p ls k = completes (Continued m) ls tt k
      execute_safe ReturnNothing p ls k = completes (Returned None) ls tt k
      execute_safe (ReturnValue e) p ls k = value_safe _ ls _ (evaluate_safe e p ls k) k
          (λ v h. completes (Returned (Some v)) ls h k)
      execute_safe (Try b c) p ls k = finally_safe _ _ (execute_safe b p.0 ls k) (execute_safe c p.1)

      -- so do clean statements
      pub execute_all_safe : (ss : Statements) → RunClean OnThis Helps classes f this ss →
          AreSafeBy (execute_all classes calls ss)
      execute_all_safe checked.Done p ls k = completes Normal ls tt k
      execute_all_safe (Then s ss) p ls k = then_safe _ _ (execute_safe s p.0 ls k) (execute_all_safe ss p.1)

    -- what a body leaves is an other value, if its return gives one
    pub leave_told : (r : Option ValueType) (x : Executed) → IsToldBy x → IsTold V (leave r x)
    leave_told r (AsksFor a s) h = record { is = h.is }
    leave_told r (Completes Normal ls rest) h = record { is = (without r, h.is.2) }
      where
        without : (r : Option ValueType) → V (answer_without r)
        without None = null_other nothing refl
        without (Some t) = start_other t
    leave_told r (Completes (Broke m) ls rest) h = record { is = (without r, h.is.2) }
      where
        without : (r : Option ValueType) → V (answer_without r)
        without None = null_other nothing refl
        without (Some t) = start_other t
    leave_told r (Completes (Continued m) ls rest) h = record { is = (without r, h.is.2) }
      where
        without : (r : Option ValueType) → V (answer_without r)
        without None = null_other nothing refl
        without (Some t) = start_other t
    leave_told r (Completes (Returned None) ls rest) h = record { is = (without r, h.is.2) }
      where
        without : (r : Option ValueType) → V (answer_without r)
        without None = null_other nothing refl
        without (Some t) = start_other t
    leave_told r (Completes (Returned (Some v)) ls rest) h = record { is = (h.is.0, h.is.2) }
    leave_told r (Completes (Threw kind) ls rest) h = record { is = h.is.2 }

  -- ---- methods

  pub starts_other : (ts : List ValueType) → AreOther (map start_of ts)
  starts_other [] n = null_other nothing refl
  starts_other (t ∷ ts) zero = start_other t
  starts_other (t ∷ ts) (suc n) = starts_other ts n

  both_other : (xs ys : List Value) → AreOther xs → AreOther ys → AreOther (xs ++ ys)
  both_other [] ys h k n = k n
  both_other (x ∷ xs) ys h k zero = h 0
  both_other (x ∷ xs) ys h k (suc n) = both_other xs ys (λ m. h (suc m)) k n

  -- the locals of a call on the object are other values but for `this`
  pub own_frame : (ts : List ValueType) (v : Value) (vs : List Value) → AreOther vs → AreLocals true (frame ts (v ∷ vs))
  own_frame ts v vs h zero slot = absurd slot
  own_frame ts v vs h (suc n) slot = both_other vs (map start_of (drop (length (v ∷ vs)) ts)) h (starts_other _) n

  other_frame : (ts : List ValueType) (vs : List Value) → AreOther vs → AreLocals false (frame ts vs)
  other_frame ts vs h n slot = both_other vs (map start_of (drop (length vs) ts)) h (starts_other _) n

  module _ (OnThis Helps : ℕ → Type 0) (file : File) (clean : AreCleanMethods OnThis Helps f file) where
    own_body : (calls : Calls) → AreSafeCalls OnThis Helps calls → (m : ℕ) → OnThis m → (x : Option Method) →
        slice_get file.methods m ≡ x → (v : Value) (vs : List Value) → AreOther vs →
        IsValueCourse (run_body file calls x (v ∷ vs))
    own_body calls safe m on None is v vs h = null_value nothing refl
    own_body calls safe m on (Some method) is v vs h = record {
      on = λ q c.
          leave_told OnThis Helps file.classes calls safe true method.result _
          ((execute_safe OnThis Helps file.classes calls safe true method.body (clean.own m method on is)
          (frame method.slots (v ∷ vs)) (own_frame method.slots v vs h)).on q c);
    }

    other_body : (calls : Calls) → AreSafeCalls OnThis Helps calls → (m : ℕ) → Helps m → (x : Option Method) →
        slice_get file.methods m ≡ x → (vs : List Value) → AreOther vs → IsValueCourse (run_body file calls x vs)
    other_body calls safe m on None is vs h = null_value nothing refl
    other_body calls safe m on (Some method) is vs h = record {
      on = λ q c.
          leave_told OnThis Helps file.classes calls safe false method.result _
          ((execute_safe OnThis Helps file.classes calls safe false method.body (clean.others m method on is)
          (frame method.slots vs) (other_frame method.slots vs h)).on q c);
    }

    pub invoke_safe : (d : ℕ) → AreSafeCalls OnThis Helps (invoke file d)
    unfolding invoke
    invoke_safe zero = record {
      own = λ m on v vs h. throws V StackOverflow;
      others = λ m on vs h. throws V StackOverflow;
    }
    invoke_safe (suc d) = record {
      own = λ m on v vs h. with_safe V V (tell (Enter m)) _ (told (Enter m) tt)
          (λ u i. own_body (invoke file d) (invoke_safe d) m on (slice_get file.methods m) refl v vs h);
      others = λ m on vs h. with_safe V V (tell (Enter m)) _ (told (Enter m) tt)
          (λ u i. other_body (invoke file d) (invoke_safe d) m on (slice_get file.methods m) refl vs h);
    }
