-- A plain course with one answer more. What has ended ends so, with the answer left over. What asks, asks for an inner
-- action, and takes the answer: if it ends, nothing is left over.
use Rattle.std.proofs.Common.{◌≡◌, ℕ, zero, suc, Bool, true, false, cond, List, [], ◌∷◌, ◌++◌, length, Option}
use Rattle.std.proofs.Common.{Some, None, refl, sym, ◌∙◌, subst, arith, length-append, slice_set, get_or-set_other}
use Rattle.std.specs.Prelude.{nat_eq, pos, int_lt, slice_get, slice_index_or}
use Rattle.ls_events.specs.declared.kind.Kind.{Kind}
use Rattle.ls_events.specs.declared.kind.Kind.TheVariants.{NullPointer, Arithmetic, NegativeArraySize, StackOverflow}
use Rattle.ls_events.specs.declared.action.Action.{Action}
use Rattle.ls_events.specs.declared.action.Action.TheVariants.{Turn, Enter}
use Rattle.ls_events.specs.declared.action.Answer.{Answer}
use Rattle.ls_events.specs.declared.action.Answer.TheVariants.{Done, Gives, Fails}
use Rattle.ls_events.specs.declared.value.Value.{Value}
use Rattle.ls_events.specs.declared.value.ValueType.{ValueType}
use Rattle.ls_checked.specs.declared.tree.Operator.{Operator}
use Rattle.ls_checked.specs.declared.tree.Called.{Called}
use Rattle.ls_checked.specs.declared.tree.Called.TheVariants.{Method as OfMethod, LockIt, UnlockIt, TryIt, AskIt}
use Rattle.ls_checked.specs.declared.tree.Called.TheVariants.{HoldMonitor, FreeMonitor, GetReference, IsMarked}
use Rattle.ls_checked.specs.declared.tree.Called.TheVariants.{GetBoth, SetBoth, CompareAndSet, Attempt}
use Rattle.ls_checked.specs.CheckedTree.{Class, Method, File, Expression, Literal, Slot, Field, Item, Negate, Not}
use Rattle.ls_checked.specs.CheckedTree.{Binary, And, Or, Call, MakeObject, MakeLock, MakeMarkable, MakeArray}
use Rattle.ls_checked.specs.CheckedTree.{Expressions, End, More, Statement, Block, SetSlot, SetField, AddField}
use Rattle.ls_checked.specs.CheckedTree.{SetItem}
use Rattle.ls_checked.specs.CheckedTree.{Evaluate, If, While, Break, Continue, ReturnNothing, ReturnValue, Try}
use Rattle.ls_checked.specs.CheckedTree.{Statements, Then}
use Rattle.ls_checked.specs.CheckedTree as checked
use Rattle.ls_meaning.specs.declared.sort.Sort.{Sort}
use Rattle.ls_meaning.specs.declared.sort.Sort.TheVariants.{NoValue}
use Rattle.ls_meaning.specs.declared.completion.Completion.{Completion}
use Rattle.ls_meaning.specs.declared.completion.Completion.TheVariants.{Normal, Broke, Continued, Returned, Threw}
use Rattle.ls_meaning.specs.Values.{truth_of, int_of, divides_by_zero, operated, nothing}
use Rattle.ls_meaning.specs.Course.{Answers, Evaluated, Asks, Results, Throws, ask, tell, with_value, unless_null}
use Rattle.ls_meaning.specs.Expressions.{Calls, evaluate, arguments, call, operate, constructor_of}
use Rattle.ls_meaning.specs.Statements.{Executed, AsksFor, Completes, on_value, then_do, finally_do, turn_back}
use Rattle.ls_meaning.specs.Statements.{after_body, one_turn, turns, execute, execute_all}
use Rattle.ls_meaning.specs.Methods.{leave, run_body, frame, invoke}
use Rattle.ls_meaning.proofs.Shorter.{CallsWithin, evaluate_within, execute_within, invoke_within, turns_eq}
use Rattle.ls_one_at_a_time.specs.Inner.{IsInner, MayCall, IsPlain, ArePlain, RunsPlain, RunPlain, AreHelpers}

-- ---- expressions

-- if it has ended, no answer is left over
abbrev pub LeavesNone : {A : Type 0} → Evaluated A → Type 0
LeavesNone (Asks a s) = Unit {0}
LeavesNone (Results v rest) = rest ≡ []
LeavesNone (Throws k rest) = rest ≡ []

-- an outcome that leaves no answer over
pub record Spent {A : Type 0} (x : Evaluated A) : Type 0 where
  pub is : LeavesNone x

module _ (y : Answer Value) where
  -- an outcome, and that with one answer more
  abbrev pub GoesOn : {A : Type 0} → Evaluated A → Evaluated A → Type 0
  GoesOn (Asks a s) x = IsInner a × Spent x
  GoesOn (Results v rest) x = x ≡ Results v (rest ++ y ∷ [])
  GoesOn (Throws k rest) x = x ≡ Throws k (rest ++ y ∷ [])

  -- what asked asks for an inner action, and takes the answer
  pub record Onward {A : Type 0} (x x' : Evaluated A) : Type 0 where
    pub is : GoesOn x x'

  -- a course that goes on so from all answers, and leaves none of none
  pub record IsCourse {A : Type 0} (f : Answers → Evaluated A) : Type 0 where
    pub on : (q : Answers) → Onward (f q) (f (q ++ y ∷ []))
    pub spent : Spent (f [])

  spent_with : {A B : Type 0} (x : Evaluated A) (go : A → Answers → Evaluated B) → Spent x →
      ((v : A) → Spent (go v [])) → Spent (with_value x go)
  spent_with (Asks a s) go h k = record { is = tt }
  spent_with (Results v rest) go h k = subst (λ r. Spent (go v r)) (sym h.is) (k v)
  spent_with (Throws kind rest) go h k = record { is = h.is }

  onward_with : {A B : Type 0} (x x' : Evaluated A) (go : A → Answers → Evaluated B) → Onward x x' →
      ((v : A) → IsCourse (go v)) → Onward (with_value x go) (with_value x' go)
  onward_with (Asks a s) x' go h k = record { is = (h.is.0, spent_with x' go h.is.1 (λ v. (k v).spent)) }
  onward_with (Results v rest) x' go h k = rw h.is ((k v).on rest)
  onward_with (Throws kind rest) x' go h k = rw h.is (record { is = refl })

  with_course : {A B : Type 0} (f : Answers → Evaluated A) (go : A → Answers → Evaluated B) → IsCourse f →
      ((v : A) → IsCourse (go v)) → IsCourse (λ q. with_value (f q) go)
  with_course f go h k = record {
    on = λ q. onward_with (f q) (f (q ++ y ∷ [])) go (h.on q) k;
    spent = spent_with (f []) go h.spent (λ v. (k v).spent);
  }

  asked_on : (a : Action Value) (s : Sort) (q : Answers) → IsInner a → Onward (ask a s q) (ask a s (q ++ y ∷ []))
  asked_on a s [] inner = record { is = (inner, by_answer y) }
    where
      by_answer : (x : Answer Value) → Spent (ask a s (x ∷ []))
      by_answer Done = record { is = refl }
      by_answer (Gives v) = record { is = refl }
      by_answer (Fails k) = record { is = refl }
  asked_on a s (Done ∷ rest) inner = record { is = refl }
  asked_on a s (Gives v ∷ rest) inner = record { is = refl }
  asked_on a s (Fails k ∷ rest) inner = record { is = refl }

  asked : (a : Action Value) (s : Sort) → IsInner a → IsCourse (ask a s)
  asked a s inner = record { on = λ q. asked_on a s q inner; spent = record { is = tt } }

  told_on : (a : Action Value) (q : Answers) → IsInner a → Onward (tell a q) (tell a (q ++ y ∷ []))
  told_on a [] inner = record { is = (inner, record { is = refl }) }
  told_on a (x ∷ rest) inner = record { is = refl }

  told : (a : Action Value) → IsInner a → IsCourse (tell a)
  told a inner = record { on = λ q. told_on a q inner; spent = record { is = tt } }

  results : {A : Type 0} (v : A) → IsCourse (λ q. Results v q)
  results v = record { on = λ q. record { is = refl }; spent = record { is = refl } }

  throws : {A : Type 0} (k : Kind) → IsCourse {A = A} (λ q. Throws k q)
  throws k = record { on = λ q. record { is = refl }; spent = record { is = refl } }

  either : {A : Type 0} (b : Bool) (f g : Answers → Evaluated A) → IsCourse f → IsCourse g →
      IsCourse (λ q. cond b (f q) (g q))
  either true f g h k = h
  either false f g h k = k

  null_course : {A : Type 0} (m : ℕ) (f : Answers → Evaluated A) → IsCourse f → IsCourse (λ q. unless_null m q (f q))
  null_course m f h = either (nat_eq m 0) (λ q. Throws NullPointer q) f (throws NullPointer) h

  operate_course : (op : Operator) (a b : Value) → IsCourse (operate op a b)
  operate_course op a b = either (divides_by_zero op b) (λ q. Throws Arithmetic q) (λ q. Results (operated op a b) q)
      (throws Arithmetic) (results (operated op a b))

  -- each call of one of the methods
  abbrev pub CallsOn : (ℕ → Type 0) → Calls → Type 0
  CallsOn Helps calls = (m : ℕ) → Helps m → (vs : List Value) → IsCourse (calls m vs)

  module _ (Helps : ℕ → Type 0) (classes : List Class) (calls : Calls) (called : CallsOn Helps calls) where
    call_course : (c : Called) → MayCall Helps classes c → (o : Value) (vs : List Value) → IsCourse (call calls c o vs)
    call_course (OfMethod m) may o vs = called m may (o ∷ vs)
    call_course LockIt may o vs = absurd may
    call_course UnlockIt may o vs = asked _ _ tt
    call_course TryIt may o vs = asked _ _ tt
    call_course AskIt may o vs = asked _ _ tt
    call_course (HoldMonitor c) may o vs = absurd may
    call_course (FreeMonitor c) may o vs = absurd may
    call_course (GetReference c) may o vs = with_course _ _ (asked _ _ tt) (λ p. results _)
    call_course (IsMarked c) may o vs = with_course _ _ (asked _ _ tt) (λ p. results _)
    call_course (GetBoth c) may o vs = with_course _ _ (asked _ _ tt)
        (λ p. null_course _ _ (with_course _ _ (asked _ _ tt) (λ u. results _)))
    call_course SetBoth may o vs = asked _ _ tt
    call_course CompareAndSet may o vs = asked _ _ tt
    call_course Attempt may o vs = asked _ _ tt

    mutual
      pub evaluate_course : (e : Expression) → IsPlain Helps classes e → (ls : List Value) →
          IsCourse (evaluate classes calls e ls)
      evaluate_course (Literal v) p ls = results _
      evaluate_course (Slot i) p ls = results _
      evaluate_course (Field e c f) p ls = with_course _ _ (evaluate_course e p ls)
          (λ o. null_course _ _ (asked _ _ tt))
      evaluate_course (Item a i) p ls = with_course _ _ (evaluate_course a p.0 ls)
          (λ o. with_course _ _ (evaluate_course i p.1 ls) (λ m. null_course _ _ (asked _ _ tt)))
      evaluate_course (Negate e) p ls = with_course _ _ (evaluate_course e p ls) (λ v. results _)
      evaluate_course (Not e) p ls = with_course _ _ (evaluate_course e p ls) (λ v. results _)
      evaluate_course (Binary op a b) p ls = with_course _ _ (evaluate_course a p.0 ls)
          (λ x. with_course _ _ (evaluate_course b p.1 ls) (λ y. operate_course op x y))
      evaluate_course (And a b) p ls = with_course _ _ (evaluate_course a p.0 ls)
          (λ x. either (truth_of x) _ _ (evaluate_course b p.1 ls) (results _))
      evaluate_course (Or a b) p ls = with_course _ _ (evaluate_course a p.0 ls)
          (λ x. either (truth_of x) _ _ (results _) (evaluate_course b p.1 ls))
      evaluate_course (Call e c es) p ls = with_course _ _ (evaluate_course e p.0 ls)
          (λ o. with_course _ _ (arguments_course es p.2 ls) (λ vs. null_course _ _ (call_course c p.1 o vs)))
      evaluate_course (MakeObject c es) p ls = with_course _ _ (asked _ _ tt)
          (λ o. with_course _ _ (arguments_course es p.1 ls)
          (λ vs. with_course _ _ (called (constructor_of classes c) p.0 (o ∷ vs)) (λ u. results _)))
      evaluate_course MakeLock p ls = asked _ _ tt
      evaluate_course (MakeMarkable c es) p ls = with_course _ _ (arguments_course es p ls) (λ vs. asked _ _ tt)
      evaluate_course (MakeArray e) p ls = with_course _ _ (evaluate_course e p ls)
          (λ v. either (int_lt (int_of v) (pos 0)) (λ q. Throws NegativeArraySize q) _ (throws NegativeArraySize)
          (asked _ _ tt))

      pub arguments_course : (es : Expressions) → ArePlain Helps classes es → (ls : List Value) →
          IsCourse (arguments classes calls es ls)
      arguments_course End p ls = results _
      arguments_course (More e es) p ls = with_course _ _ (evaluate_course e p.0 ls)
          (λ v. with_course _ _ (arguments_course es p.1 ls) (λ vs. results _))

-- ---- statements; one slot keeps its value

module _ (slot : ℕ) (w : Value) where
  -- the slot has the value
  abbrev pub IsKept : List Value → Type 0
  IsKept ls = slice_index_or ls slot nothing ≡ w

  -- no answer is left over, and the slot has the value
  abbrev pub LeavesNoneBy : Executed → Type 0
  LeavesNoneBy (AsksFor a s) = Unit {0}
  LeavesNoneBy (Completes c ls rest) = (rest ≡ []) × IsKept ls

  -- a statement's outcome that leaves no answer over
  pub record SpentBy (x : Executed) : Type 0 where
    pub is : LeavesNoneBy x

  module _ (y : Answer Value) where
    -- an outcome of a statement, and that with one answer more
    abbrev pub GoesOnBy : Executed → Executed → Type 0
    GoesOnBy (AsksFor a s) x = IsInner a × SpentBy x
    GoesOnBy (Completes c ls rest) x = (x ≡ Completes c ls (rest ++ y ∷ [])) × IsKept ls

    pub record OnwardBy (x x' : Executed) : Type 0 where
      pub is : GoesOnBy x x'

    -- a statement's course that goes on so by each answer
    pub record IsCourseBy (f : Answers → Executed) : Type 0 where
      pub on : (q : Answers) → OnwardBy (f q) (f (q ++ y ∷ []))
      pub spent : SpentBy (f [])

    abbrev AreCourses : (List Value → Answers → Executed) → Type 0
    AreCourses go = (ls : List Value) → IsKept ls → IsCourseBy (go ls)

    completes : (c : Completion Value) (ls : List Value) → IsKept ls → IsCourseBy (λ q. Completes c ls q)
    completes c ls k = record { on = λ q. record { is = (refl, k) }; spent = record { is = (refl, k) } }

    -- an expression first
    spent_value : (x : Evaluated Value) (ls : List Value) (go : Value → Answers → Executed) → Spent x → IsKept ls →
        ((v : Value) → IsCourseBy (go v)) → SpentBy (on_value x ls go)
    spent_value (Asks a s) ls go h k g = record { is = tt }
    spent_value (Results v rest) ls go h k g = subst (λ r. SpentBy (go v r)) (sym h.is) (g v).spent
    spent_value (Throws kind rest) ls go h k g = record { is = (h.is, k) }

    onward_value : (x x' : Evaluated Value) (ls : List Value) (go : Value → Answers → Executed) → Onward y x x' →
        IsKept ls → ((v : Value) → IsCourseBy (go v)) → OnwardBy (on_value x ls go) (on_value x' ls go)
    onward_value (Asks a s) x' ls go h k g = record { is = (h.is.0, spent_value x' ls go h.is.1 k g) }
    onward_value (Results v rest) x' ls go h k g = rw h.is ((g v).on rest)
    onward_value (Throws kind rest) x' ls go h k g = rw h.is (record { is = (refl, k) })

    value_course : (f : Answers → Evaluated Value) (ls : List Value) (go : Value → Answers → Executed) →
        IsCourse y f → IsKept ls → ((v : Value) → IsCourseBy (go v)) → IsCourseBy (λ q. on_value (f q) ls go)
    value_course f ls go h k g = record {
      on = λ q. onward_value (f q) (f (q ++ y ∷ [])) ls go (h.on q) k g;
      spent = spent_value (f []) ls go h.spent k g;
    }

    -- a statement first
    spent_then : (x : Executed) (go : List Value → Answers → Executed) → SpentBy x → AreCourses go →
        SpentBy (then_do x go)
    spent_then (AsksFor a s) go h g = record { is = tt }
    spent_then (Completes Normal ls rest) go h g = subst (λ r. SpentBy (go ls r)) (sym h.is.0) (g ls h.is.1).spent
    spent_then (Completes (Broke m) ls rest) go h g = record { is = h.is }
    spent_then (Completes (Continued m) ls rest) go h g = record { is = h.is }
    spent_then (Completes (Returned v) ls rest) go h g = record { is = h.is }
    spent_then (Completes (Threw kind) ls rest) go h g = record { is = h.is }

    onward_then : (x x' : Executed) (go : List Value → Answers → Executed) → OnwardBy x x' → AreCourses go →
        OnwardBy (then_do x go) (then_do x' go)
    onward_then (AsksFor a s) x' go h g = record { is = (h.is.0, spent_then x' go h.is.1 g) }
    onward_then (Completes Normal ls rest) x' go h g = rw h.is.0 ((g ls h.is.1).on rest)
    onward_then (Completes (Broke m) ls rest) x' go h g = rw h.is.0 (record { is = (refl, h.is.1) })
    onward_then (Completes (Continued m) ls rest) x' go h g = rw h.is.0 (record { is = (refl, h.is.1) })
    onward_then (Completes (Returned v) ls rest) x' go h g = rw h.is.0 (record { is = (refl, h.is.1) })
    onward_then (Completes (Threw kind) ls rest) x' go h g = rw h.is.0 (record { is = (refl, h.is.1) })

    then_course : (f : Answers → Executed) (go : List Value → Answers → Executed) → IsCourseBy f → AreCourses go →
        IsCourseBy (λ q. then_do (f q) go)
    then_course f go h g = record {
      on = λ q. onward_then (f q) (f (q ++ y ∷ [])) go (h.on q) g;
      spent = spent_then (f []) go h.spent g;
    }

    -- a finally block
    spent_finally : (x : Executed) (go : List Value → Answers → Executed) → SpentBy x → AreCourses go →
        SpentBy (finally_do x go)
    spent_finally (AsksFor a s) go h g = record { is = tt }
    spent_finally (Completes c ls rest) go h g =
        subst (λ r. SpentBy (then_do (go ls r) (λ ls r. Completes c ls r))) (sym h.is.0)
        (then_course (go ls) (λ ls r. Completes c ls r) (g ls h.is.1) (completes c)).spent

    onward_finally : (x x' : Executed) (go : List Value → Answers → Executed) → OnwardBy x x' → AreCourses go →
        OnwardBy (finally_do x go) (finally_do x' go)
    onward_finally (AsksFor a s) x' go h g = record { is = (h.is.0, spent_finally x' go h.is.1 g) }
    onward_finally (Completes c ls rest) x' go h g =
        rw h.is.0 ((then_course (go ls) (λ ls r. Completes c ls r) (g ls h.is.1) (completes c)).on rest)

    finally_course : (f : Answers → Executed) (go : List Value → Answers → Executed) → IsCourseBy f → AreCourses go →
        IsCourseBy (λ q. finally_do (f q) go)
    finally_course f go h g = record {
      on = λ q. onward_finally (f q) (f (q ++ y ∷ [])) go (h.on q) g;
      spent = spent_finally (f []) go h.spent g;
    }

    -- loops
    turn_course : (again : List Value → Answers → Executed) → AreCourses again → AreCourses (turn_back again)
    turn_course again g ls k = value_course (tell Turn) ls (λ u rest. again ls rest) (told y Turn tt) k (λ v. g ls k)

    spent_body : (x : Executed) (again : List Value → Answers → Executed) → SpentBy x → AreCourses again →
        SpentBy (after_body x again)
    spent_body (AsksFor a s) again h g = record { is = tt }
    spent_body (Completes Normal ls rest) again h g =
        subst (λ r. SpentBy (turn_back again ls r)) (sym h.is.0) (turn_course again g ls h.is.1).spent
    spent_body (Completes (Continued zero) ls rest) again h g =
        subst (λ r. SpentBy (turn_back again ls r)) (sym h.is.0) (turn_course again g ls h.is.1).spent
    spent_body (Completes (Continued (suc m)) ls rest) again h g = record { is = h.is }
    spent_body (Completes (Broke zero) ls rest) again h g = record { is = h.is }
    spent_body (Completes (Broke (suc m)) ls rest) again h g = record { is = h.is }
    spent_body (Completes (Returned v) ls rest) again h g = record { is = h.is }
    spent_body (Completes (Threw kind) ls rest) again h g = record { is = h.is }

    onward_body : (x x' : Executed) (again : List Value → Answers → Executed) → OnwardBy x x' → AreCourses again →
        OnwardBy (after_body x again) (after_body x' again)
    onward_body (AsksFor a s) x' again h g = record { is = (h.is.0, spent_body x' again h.is.1 g) }
    onward_body (Completes Normal ls rest) x' again h g = rw h.is.0 ((turn_course again g ls h.is.1).on rest)
    onward_body (Completes (Continued zero) ls rest) x' again h g = rw h.is.0 ((turn_course again g ls h.is.1).on rest)
    onward_body (Completes (Continued (suc m)) ls rest) x' again h g = rw h.is.0 (record { is = (refl, h.is.1) })
    onward_body (Completes (Broke zero) ls rest) x' again h g = rw h.is.0 (record { is = (refl, h.is.1) })
    onward_body (Completes (Broke (suc m)) ls rest) x' again h g = rw h.is.0 (record { is = (refl, h.is.1) })
    onward_body (Completes (Returned v) ls rest) x' again h g = rw h.is.0 (record { is = (refl, h.is.1) })
    onward_body (Completes (Threw kind) ls rest) x' again h g = rw h.is.0 (record { is = (refl, h.is.1) })

    body_course : (f : Answers → Executed) (again : List Value → Answers → Executed) → IsCourseBy f →
        AreCourses again → IsCourseBy (λ q. after_body (f q) again)
    body_course f again h g = record {
      on = λ q. onward_body (f q) (f (q ++ y ∷ [])) again (h.on q) g;
      spent = spent_body (f []) again h.spent g;
    }

    either_by : (b : Bool) (f g : Answers → Executed) → IsCourseBy f → IsCourseBy g →
        IsCourseBy (λ q. cond b (f q) (g q))
    either_by true f g h k = h
    either_by false f g h k = k

    module _ (condition : List Value → Answers → Evaluated Value) (body : List Value → Answers → Executed)
        (tested : (ls : List Value) → IsCourse y (condition ls)) (done : AreCourses body) where
      one_turn_course : (again : List Value → Answers → Executed) → AreCourses again →
          AreCourses (one_turn condition body again)
      one_turn_course again g ls k = value_course (condition ls) ls _ (tested ls) k
          (λ v. either_by (truth_of v) _ _ (body_course (body ls) again (done ls k) g) (completes Normal ls k))

      turns_course : (n : ℕ) → AreCourses (turns n condition body)
      turns_course zero = one_turn_course (λ ls rest. AsksFor Turn NoValue)
          (λ ls k. record { on = λ q. record { is = (tt, record { is = tt }) }; spent = record { is = tt } })
      turns_course (suc n) = one_turn_course (turns n condition body) (turns_course n)

    module _ (Helps : ℕ → Type 0) (classes : List Class) (calls : Calls) (called : CallsOn y Helps calls)
        (within : CallsWithin calls) where
      valued : (e : Expression) → IsPlain Helps classes e → (ls : List Value) → IsCourse y (evaluate classes calls e ls)
      valued = evaluate_course y Helps classes calls called

      -- a loop has turns enough for one answer more
      loop_course : (e : Expression) (s : Statement) → IsPlain Helps classes e → AreCourses (execute classes calls s) →
          AreCourses (execute classes calls (While e s))
      loop_course e s p done ls k = record {
        on = λ q.
            subst (λ z. OnwardBy z (execute classes calls (While e s) ls (q ++ y ∷ [])))
            (turns_eq (evaluate classes calls e) (execute classes calls s)
            (λ n. evaluate_within calls within n classes e) (execute_within classes calls within s)
            (length (q ++ y ∷ [])) (length q) ls q (omega (arith, length-append q (y ∷ []))) (omega arith))
            ((turns_course (evaluate classes calls e) (execute classes calls s) (valued e p) done
            (length (q ++ y ∷ [])) ls k).on q);
        spent = (turns_course (evaluate classes calls e) (execute classes calls s) (valued e p) done 0 ls k).spent;
      }

      mutual
        -- a plain statement has such a course
        pub execute_course : (s : Statement) → RunsPlain Helps classes slot s → AreCourses (execute classes calls s)
        execute_course (Block ss) p ls k = execute_all_course ss p ls k
        execute_course (SetSlot m e) p ls k = value_course _ ls _ (valued e p.1 ls) k
            (λ v. completes Normal (slice_set ls m v) (get_or-set_other ls m slot v nothing p.0 ∙ k))
        execute_course (SetField e f v) p ls k = value_course _ ls _
            (with_course y _ _ (valued e p.0 ls)
            (λ o. with_course y _ _ (valued v p.1 ls) (λ v. null_course y _ _ (asked y _ _ tt)))) k
            (λ v. completes Normal ls k)
        execute_course (AddField e f v) p ls k = value_course _ ls _
            (with_course y _ _ (valued e p.0 ls)
            (λ o. with_course y _ _ (null_course y _ _ (asked y _ _ tt))
            (λ a. with_course y _ _ (valued v p.1 ls)
            (λ b. null_course y _ _ (asked y _ _ tt))))) k
            (λ v. completes Normal ls k)
        execute_course (SetItem a i v) p ls k = value_course _ ls _
            (with_course y _ _ (valued a p.0 ls)
            (λ o. with_course y _ _ (valued i p.1 ls)
            (λ n. with_course y _ _ (valued v p.2 ls) (λ v. null_course y _ _ (asked y _ _ tt))))) k
            (λ v. completes Normal ls k)
        execute_course (Evaluate e) p ls k = value_course _ ls _ (valued e p ls) k (λ v. completes Normal ls k)
        execute_course (If e a b) p ls k = value_course _ ls _ (valued e p.0 ls) k
            (λ v. either_by (truth_of v) _ _ (execute_course a p.1 ls k) (execute_course b p.2 ls k))
        execute_course (While e s) p ls k = loop_course e s p.0 (execute_course s p.1) ls k
        execute_course (Break m) p ls k = completes (Broke m) ls k
        execute_course (Continue m) p ls k = completes (Continued m) ls k
        execute_course ReturnNothing p ls k = completes (Returned None) ls k
        execute_course (ReturnValue e) p ls k = value_course _ ls _ (valued e p ls) k
            (λ v. completes (Returned (Some v)) ls k)
        execute_course (Try b f) p ls k = finally_course _ _ (execute_course b p.0 ls k) (execute_course f p.1)

        pub execute_all_course : (ss : Statements) → RunPlain Helps classes slot ss →
            AreCourses (execute_all classes calls ss)
        execute_all_course checked.Done p ls k = completes Normal ls k
        execute_all_course (Then s ss) p ls k = then_course _ _ (execute_course s p.0 ls k) (execute_all_course ss p.1)

-- ---- methods

module _ (y : Answer Value) where
  spent_leave : (slot : ℕ) (w : Value) (r : Option ValueType) (x : Executed) → SpentBy slot w x → Spent (leave r x)
  spent_leave slot w r (AsksFor a s) h = record { is = tt }
  spent_leave slot w r (Completes Normal ls rest) h = record { is = h.is.0 }
  spent_leave slot w r (Completes (Broke m) ls rest) h = record { is = h.is.0 }
  spent_leave slot w r (Completes (Continued m) ls rest) h = record { is = h.is.0 }
  spent_leave slot w r (Completes (Returned None) ls rest) h = record { is = h.is.0 }
  spent_leave slot w r (Completes (Returned (Some v)) ls rest) h = record { is = h.is.0 }
  spent_leave slot w r (Completes (Threw kind) ls rest) h = record { is = h.is.0 }

  onward_leave : (slot : ℕ) (w : Value) (r : Option ValueType) (x x' : Executed) → OnwardBy slot w y x x' →
      Onward y (leave r x) (leave r x')
  onward_leave slot w r (AsksFor a s) x' h = record { is = (h.is.0, spent_leave slot w r x' h.is.1) }
  onward_leave slot w r (Completes Normal ls rest) x' h = rw h.is.0 (record { is = refl })
  onward_leave slot w r (Completes (Broke m) ls rest) x' h = rw h.is.0 (record { is = refl })
  onward_leave slot w r (Completes (Continued m) ls rest) x' h = rw h.is.0 (record { is = refl })
  onward_leave slot w r (Completes (Returned None) ls rest) x' h = rw h.is.0 (record { is = refl })
  onward_leave slot w r (Completes (Returned (Some v)) ls rest) x' h = rw h.is.0 (record { is = refl })
  onward_leave slot w r (Completes (Threw kind) ls rest) x' h = rw h.is.0 (record { is = refl })

  module _ (Helps : ℕ → Type 0) (file : File) (help : AreHelpers Helps file) where
    run_course : (calls : Calls) → CallsOn y Helps calls → CallsWithin calls → (m : ℕ) → Helps m →
        (o : Option Method) → slice_get file.methods m ≡ o → (vs : List Value) → IsCourse y (run_body file calls o vs)
    run_course calls called within m helps None is vs = results y nothing
    run_course calls called within m helps (Some method) is vs =
        let p = help m method helps is in
        let ls = frame method.slots vs in
        let w = slice_index_or ls p.0 nothing in
        let c = execute_course p.0 w y Helps file.classes calls called within method.body p.1 ls refl in
        record {
          on = λ q. onward_leave p.0 w method.result _ _ (c.on q);
          spent = spent_leave p.0 w method.result _ c.spent;
        }

    -- a helper is a course
    pub invoke_course : (d : ℕ) → CallsOn y Helps (invoke file d)
    unfolding invoke
    invoke_course zero m helps vs = throws y StackOverflow
    invoke_course (suc d) m helps vs = with_course y (tell (Enter m)) _ (told y (Enter m) tt)
        (λ u. run_course (invoke file d) (invoke_course d) (invoke_within file d) m helps
        (slice_get file.methods m) refl
        vs)
