-- A course with more answers: what has ended ends so, with more answers left. And no call, return or trap of the
-- program stands within the body of a call.
use Rattle.std.proofs.Common.{◌≡◌, ℕ, zero, suc, ◌≤◌, Bool, true, false, cond, List, [], ◌∷◌, ◌++◌, length, Option}
use Rattle.std.proofs.Common.{Some}
use Rattle.std.proofs.Common.{None, refl, arith, length-append}
use Rattle.std.specs.Prelude.{nat_eq, pos, int_lt, slice_get}
use Rattle.ls_events.specs.declared.kind.Kind.TheVariants.{NullPointer, Arithmetic, NegativeArraySize}
use Rattle.ls_events.specs.declared.action.Action.{Action}
use Rattle.ls_events.specs.declared.action.Action.TheVariants.{Turn, Enter, WriteName, Call as CallEvent}
use Rattle.ls_events.specs.declared.action.Action.TheVariants.{Return as ReturnEvent, Trap as TrapEvent}
use Rattle.ls_events.specs.declared.action.Answer.{Answer}
use Rattle.ls_events.specs.declared.action.Answer.TheVariants.{Done, Gives, Fails}
use Rattle.ls_events.specs.declared.value.Value.{Value}
use Rattle.ls_events.specs.declared.value.ValueType.{ValueType}
use Rattle.ls_checked.specs.declared.tree.Operator.{Operator}
use Rattle.ls_checked.specs.declared.tree.Called.{Called}
use Rattle.ls_checked.specs.declared.tree.Called.TheVariants.{Method as OfMethod, LockIt, UnlockIt, TryIt, AskIt}
use Rattle.ls_checked.specs.declared.tree.Called.TheVariants.{HoldMonitor, FreeMonitor, GetReference, IsMarked}
use Rattle.ls_checked.specs.declared.tree.Called.TheVariants.{GetBoth}
use Rattle.ls_checked.specs.declared.tree.Called.TheVariants.{SetBoth, CompareAndSet, Attempt}
use Rattle.ls_checked.specs.CheckedTree.{Class, Method, File, Expression, Literal, Slot, Field, Item, Negate, Not}
use Rattle.ls_checked.specs.CheckedTree.{Binary, And, Or, Call, MakeObject, MakeLock, MakeMarkable, MakeArray}
use Rattle.ls_checked.specs.CheckedTree.{Expressions, End, More, Statement, Block, SetSlot, SetField, AddField}
use Rattle.ls_checked.specs.CheckedTree.{SetItem}
use Rattle.ls_checked.specs.CheckedTree.{Evaluate, If, While, Break, Continue, ReturnNothing, ReturnValue, Try}
use Rattle.ls_checked.specs.CheckedTree.{Statements, Then}
use Rattle.ls_checked.specs.CheckedTree as checked
use Rattle.ls_checked.specs.CheckedProgram.{Program, ProgramCall, Making, Calling}
use Rattle.ls_meaning.specs.declared.sort.Sort.{Sort}
use Rattle.ls_meaning.specs.declared.sort.Sort.TheVariants.{NoValue}
use Rattle.ls_meaning.specs.declared.completion.Completion.{Completion}
use Rattle.ls_meaning.specs.declared.completion.Completion.TheVariants.{Normal, Broke, Continued, Returned, Threw}
use Rattle.ls_meaning.specs.Values.{truth_of, int_of, divides_by_zero, operated, reference_of}
use Rattle.ls_meaning.specs.Course.{Answers, Evaluated, Asks, Results, Throws, ask, tell, with_value, unless_null}
use Rattle.ls_meaning.specs.Expressions.{Calls, evaluate, arguments, call, operate}
use Rattle.ls_meaning.specs.Statements.{Executed, AsksFor, Completes, on_value, then_do, finally_do, turn_back}
use Rattle.ls_meaning.specs.Statements.{after_body, one_turn, turns, execute, execute_all}
use Rattle.ls_meaning.specs.Methods.{leave, run_body, frame, invoke, depth_limit}
use Rattle.ls_meaning.specs.Threads.{one_call}

-- a call, a return or a trap
abbrev pub IsLoud : Action Value → Type 0
IsLoud (CallEvent n) = Unit {0}
IsLoud (ReturnEvent n v) = Unit {0}
IsLoud (TrapEvent n kind) = Unit {0}
IsLoud _ = ⊥

abbrev pub IsQuiet : Action Value → Type 0
IsQuiet a = IsLoud a → ⊥

-- answers that come more
module _ (more : Answers) where
  -- what it is with more answers
  abbrev pub Becomes : {A : Type 0} → Evaluated A → Evaluated A → Type 0
  Becomes (Asks a s) x = IsQuiet a
  Becomes (Results v rest) x = x ≡ Results v (rest ++ more)
  Becomes (Throws k rest) x = x ≡ Throws k (rest ++ more)

  pub record Further {A : Type 0} (x y : Evaluated A) : Type 0 where
    pub is : Becomes x y

  pub with_further : {A B : Type 0} (x y : Evaluated A) (go to : A → Answers → Evaluated B) →
      Further x y →
      ((v : A) (rest : Answers) → Further (go v rest) (to v (rest ++ more))) →
      Further (with_value x go) (with_value y to)
  with_further (Asks a s) y go to h k = record { is = h.is }
  with_further (Results v rest) y go to h k = rw h.is (k v rest)
  with_further (Throws kind rest) y go to h k = rw h.is (record { is = refl })

  pub asked : (a : Action Value) (s : Sort) (qs : Answers) → IsQuiet a → Further (ask a s qs) (ask a s (qs ++ more))
  asked a s [] quiet = record { is = quiet }
  asked a s (Done ∷ rest) quiet = record { is = refl }
  asked a s (Gives v ∷ rest) quiet = record { is = refl }
  asked a s (Fails k ∷ rest) quiet = record { is = refl }

  pub announced : (a : Action Value) (qs : Answers) → IsQuiet a → Further (tell a qs) (tell a (qs ++ more))
  announced a [] quiet = record { is = quiet }
  announced a (x ∷ rest) quiet = record { is = refl }

  either : {A : Type 0} (b : Bool) (x x' y y' : Evaluated A) → Further x x' → Further y y' →
      Further (cond b x y) (cond b x' y')
  either true x x' y y' h k = h
  either false x x' y y' h k = k

  pub null_further : {A : Type 0} (m : ℕ) (rest : Answers) (x y : Evaluated A) →
      Further x y →
      Further (unless_null m rest x) (unless_null m (rest ++ more) y)
  null_further m rest x y h =
      either (nat_eq m 0) (Throws NullPointer rest) (Throws NullPointer (rest ++ more)) x y (record { is = refl }) h

  abbrev pub CallsFurther : Calls → Type 0
  CallsFurther calls = (m : ℕ) (vs : List Value) (qs : Answers) → Further (calls m vs qs) (calls m vs (qs ++ more))

  pub results : {A : Type 0} (v : A) (rest : Answers) → Further (Results v rest) (Results v (rest ++ more))
  results v rest = record { is = refl }

  operate_further : (op : Operator) (x y : Value) (qs : Answers) →
      Further (operate op x y qs) (operate op x y (qs ++ more))
  operate_further op x y qs = either (divides_by_zero op y) (Throws Arithmetic qs) (Throws Arithmetic (qs ++ more))
      (Results (operated op x y) qs) (Results (operated op x y) (qs ++ more)) (record { is = refl })
      (record { is = refl })

  module _ (calls : Calls) (called : CallsFurther calls) where
    call_further : (c : Called) (o : Value) (vs : List Value) (qs : Answers) →
        Further (call calls c o vs qs) (call calls c o vs (qs ++ more))
    call_further (OfMethod m) o vs qs = called m (o ∷ vs) qs
    call_further LockIt o vs qs = asked _ _ qs (λ h. h)
    call_further UnlockIt o vs qs = asked _ _ qs (λ h. h)
    call_further TryIt o vs qs = asked _ _ qs (λ h. h)
    call_further AskIt o vs qs = asked _ _ qs (λ h. h)
    call_further (HoldMonitor c) o vs qs = asked _ _ qs (λ h. h)
    call_further (FreeMonitor c) o vs qs = asked _ _ qs (λ h. h)
    call_further (GetReference c) o vs qs = with_further _ _ _ _ (asked _ _ qs (λ h. h)) (λ p rest. results _ rest)
    call_further (IsMarked c) o vs qs = with_further _ _ _ _ (asked _ _ qs (λ h. h)) (λ p rest. results _ rest)
    call_further (GetBoth c) o vs qs = with_further _ _ _ _ (asked _ _ qs (λ h. h))
        (λ p rest. null_further _ rest _ _ (with_further _ _ _ _ (asked _ _ rest (λ h. h)) (λ u rest. results _ rest)))
    call_further SetBoth o vs qs = asked _ _ qs (λ h. h)
    call_further CompareAndSet o vs qs = asked _ _ qs (λ h. h)
    call_further Attempt o vs qs = asked _ _ qs (λ h. h)

    module _ (classes : List Class) where
      mutual
        pub evaluate_further : (e : Expression) (ls : List Value) (qs : Answers) →
            Further (evaluate classes calls e ls qs) (evaluate classes calls e ls (qs ++ more))
        evaluate_further (Literal v) ls qs = results _ qs
        evaluate_further (Slot i) ls qs = results _ qs
        evaluate_further (Field e c f) ls qs = with_further _ _ _ _ (evaluate_further e ls qs)
            (λ o rest. null_further _ rest _ _ (asked _ _ rest (λ h. h)))
        evaluate_further (Item a i) ls qs = with_further _ _ _ _ (evaluate_further a ls qs)
            (λ o rest. with_further _ _ _ _ (evaluate_further i ls rest)
            (λ m rest. null_further _ rest _ _ (asked _ _ rest (λ h. h))))
        evaluate_further (Negate e) ls qs = with_further _ _ _ _ (evaluate_further e ls qs) (λ v rest. results _ rest)
        evaluate_further (Not e) ls qs = with_further _ _ _ _ (evaluate_further e ls qs) (λ v rest. results _ rest)
        evaluate_further (Binary op a b) ls qs = with_further _ _ _ _ (evaluate_further a ls qs)
            (λ x rest. with_further _ _ _ _ (evaluate_further b ls rest) (λ y rest. operate_further op x y rest))
        evaluate_further (And a b) ls qs = with_further _ _ _ _ (evaluate_further a ls qs)
            (λ x rest. either (truth_of x) _ _ _ _ (evaluate_further b ls rest) (results _ rest))
        evaluate_further (Or a b) ls qs = with_further _ _ _ _ (evaluate_further a ls qs)
            (λ x rest. either (truth_of x) _ _ _ _ (results _ rest) (evaluate_further b ls rest))
        evaluate_further (Call e c es) ls qs = with_further _ _ _ _ (evaluate_further e ls qs)
            (λ o rest. with_further _ _ _ _ (arguments_further es ls rest)
            (λ vs rest. null_further _ rest _ _ (call_further c o vs rest)))
        evaluate_further (MakeObject c es) ls qs = with_further _ _ _ _ (asked _ _ qs (λ h. h))
            (λ o rest. with_further _ _ _ _ (arguments_further es ls rest)
            (λ vs rest. with_further _ _ _ _ (called _ _ rest) (λ u rest. results _ rest)))
        evaluate_further MakeLock ls qs = asked _ _ qs (λ h. h)
        evaluate_further (MakeMarkable c es) ls qs = with_further _ _ _ _ (arguments_further es ls qs)
            (λ vs rest. asked _ _ rest (λ h. h))
        evaluate_further (MakeArray e) ls qs = with_further _ _ _ _ (evaluate_further e ls qs)
            (λ v rest. either (int_lt (int_of v) (pos 0)) (Throws NegativeArraySize rest) _ _ _ (record { is = refl })
            (asked _ _ rest (λ h. h)))

        pub arguments_further : (es : Expressions) (ls : List Value) (qs : Answers) →
            Further (arguments classes calls es ls qs) (arguments classes calls es ls (qs ++ more))
        arguments_further End ls qs = results _ qs
        arguments_further (More e es) ls qs = with_further _ _ _ _ (evaluate_further e ls qs)
            (λ v rest. with_further _ _ _ _ (arguments_further es ls rest) (λ vs rest. results _ rest))

  -- ---- statements

  abbrev pub BecomesBy : Executed → Executed → Type 0
  BecomesBy (AsksFor a s) x = IsQuiet a
  BecomesBy (Completes c ls rest) x = x ≡ Completes c ls (rest ++ more)

  pub record FurtherBy (x y : Executed) : Type 0 where
    pub is : BecomesBy x y

  completes : (c : Completion Value) (ls : List Value) (rest : Answers) →
      FurtherBy (Completes c ls rest) (Completes c ls (rest ++ more))
  completes c ls rest = record { is = refl }

  on_value_further : (x y : Evaluated Value) (ls : List Value) (go to : Value → Answers → Executed) →
      Further x y →
      ((v : Value) (rest : Answers) → FurtherBy (go v rest) (to v (rest ++ more))) →
      FurtherBy (on_value x ls go) (on_value y ls to)
  on_value_further (Asks a s) y ls go to h k = record { is = h.is }
  on_value_further (Results v rest) y ls go to h k = rw h.is (k v rest)
  on_value_further (Throws kind rest) y ls go to h k = rw h.is (completes _ ls rest)

  abbrev GoFurther : (go to : List Value → Answers → Executed) → Type 0
  GoFurther go to = (ls : List Value) (rest : Answers) → FurtherBy (go ls rest) (to ls (rest ++ more))

  then_do_further : (x y : Executed) (go to : List Value → Answers → Executed) →
      FurtherBy x y →
      GoFurther go to →
      FurtherBy (then_do x go) (then_do y to)
  then_do_further (AsksFor a s) y go to h k = record { is = h.is }
  then_do_further (Completes Normal ls rest) y go to h k = rw h.is (k ls rest)
  then_do_further (Completes (Broke m) ls rest) y go to h k = rw h.is (completes _ ls rest)
  then_do_further (Completes (Continued m) ls rest) y go to h k = rw h.is (completes _ ls rest)
  then_do_further (Completes (Returned v) ls rest) y go to h k = rw h.is (completes _ ls rest)
  then_do_further (Completes (Threw kind) ls rest) y go to h k = rw h.is (completes _ ls rest)

  finally_further : (x y : Executed) (go to : List Value → Answers → Executed) →
      FurtherBy x y →
      GoFurther go to →
      FurtherBy (finally_do x go) (finally_do y to)
  finally_further (AsksFor a s) y go to h k = record { is = h.is }
  finally_further (Completes c ls rest) y go to h k =
      rw h.is (then_do_further (go ls rest) (to ls (rest ++ more)) _ _ (k ls rest) (λ ls rest. completes c ls rest))

  turn_back_further : (again on : List Value → Answers → Executed) (ls : List Value) (qs : Answers) →
      GoFurther again on →
      FurtherBy (turn_back again ls qs) (turn_back on ls (qs ++ more))
  turn_back_further again on ls qs k =
      on_value_further _ _ ls _ _ (announced Turn qs (λ h. h)) (λ v rest. k ls rest)

  after_body_further : (x y : Executed) (again on : List Value → Answers → Executed) →
      GoFurther again on →
      FurtherBy x y →
      FurtherBy (after_body x again) (after_body y on)
  after_body_further (AsksFor a s) y again on k h = record { is = h.is }
  after_body_further (Completes Normal ls rest) y again on k h = rw h.is (turn_back_further again on ls rest k)
  after_body_further (Completes (Continued zero) ls rest) y again on k h =
      rw h.is (turn_back_further again on ls rest k)
  after_body_further (Completes (Continued (suc m)) ls rest) y again on k h = rw h.is (completes _ ls rest)
  after_body_further (Completes (Broke zero) ls rest) y again on k h = rw h.is (completes _ ls rest)
  after_body_further (Completes (Broke (suc m)) ls rest) y again on k h = rw h.is (completes _ ls rest)
  after_body_further (Completes (Returned v) ls rest) y again on k h = rw h.is (completes _ ls rest)
  after_body_further (Completes (Threw kind) ls rest) y again on k h = rw h.is (completes _ ls rest)

  if_by : (b : Bool) (x x' y y' : Executed) → FurtherBy x x' → FurtherBy y y' → FurtherBy (cond b x y) (cond b x' y')
  if_by true x x' y y' h k = h
  if_by false x x' y y' h k = k

  module _ (condition : List Value → Answers → Evaluated Value) (body : List Value → Answers → Executed)
      (tested : (ls : List Value) (qs : Answers) → Further (condition ls qs) (condition ls (qs ++ more)))
      (done : GoFurther body body) where
    one_turn_further : (again on : List Value → Answers → Executed) →
        GoFurther again on →
        GoFurther (one_turn condition body again) (one_turn condition body on)
    one_turn_further again on k ls qs = on_value_further _ _ ls _ _ (tested ls qs)
        (λ v rest. if_by (truth_of v) _ _ _ _ (after_body_further _ _ again on k (done ls rest)) (completes _ ls rest))

    turns_further : (n m : ℕ) → n ≤ m → GoFurther (turns n condition body) (turns m condition body)
    turns_further zero zero le ls qs =
        one_turn_further (λ ls rest. AsksFor Turn NoValue) _ (λ ls rest. record { is = λ h. h }) ls qs
    turns_further zero (suc m) le ls qs =
        one_turn_further (λ ls rest. AsksFor Turn NoValue) _ (λ ls rest. record { is = λ h. h }) ls qs
    turns_further (suc n) zero le ls qs = absurd (omega arith)
    turns_further (suc n) (suc m) le ls qs =
        one_turn_further (turns n condition body) (turns m condition body) (turns_further n m (omega arith)) ls qs

  module _ (classes : List Class) (calls : Calls) (called : CallsFurther calls) where
    abbrev value : Expression → List Value → Answers → Type 0
    value e ls qs = Further (evaluate classes calls e ls qs) (evaluate classes calls e ls (qs ++ more))

    valued : (e : Expression) (ls : List Value) (qs : Answers) → value e ls qs
    valued = evaluate_further calls called classes

    mutual
      pub execute_further : (s : Statement) (ls : List Value) (qs : Answers) →
          FurtherBy (execute classes calls s ls qs) (execute classes calls s ls (qs ++ more))
      execute_further (Block ss) ls qs = execute_all_further ss ls qs
      execute_further (SetSlot m e) ls qs = on_value_further _ _ ls _ _ (valued e ls qs) (λ v rest. completes _ _ rest)
      execute_further (SetField e f v) ls qs = on_value_further _ _ ls _ _
          (with_further _ _ _ _ (valued e ls qs)
          (λ o rest. with_further _ _ _ _ (valued v ls rest)
          (λ v rest. null_further _ rest _ _ (asked _ _ rest (λ h. h))))) (λ v rest. completes _ _ rest)
      execute_further (AddField e f v) ls qs = on_value_further _ _ ls _ _
          (with_further _ _ _ _ (valued e ls qs)
          (λ o rest. with_further _ _ _ _ (null_further _ rest _ _ (asked _ _ rest (λ h. h)))
          (λ x rest. with_further _ _ _ _ (valued v ls rest)
          (λ y rest. null_further _ rest _ _ (asked _ _ rest (λ h. h)))))) (λ v rest. completes _ _ rest)
      execute_further (SetItem a i v) ls qs = on_value_further _ _ ls _ _
          (with_further _ _ _ _ (valued a ls qs)
          (λ o rest. with_further _ _ _ _ (valued i ls rest)
          (λ m rest. with_further _ _ _ _ (valued v ls rest)
          (λ v rest. null_further _ rest _ _ (asked _ _ rest (λ h. h)))))) (λ v rest. completes _ _ rest)
      execute_further (Evaluate e) ls qs = on_value_further _ _ ls _ _ (valued e ls qs) (λ v rest. completes _ _ rest)
      execute_further (If e a b) ls qs = on_value_further _ _ ls _ _ (valued e ls qs)
          (λ v rest. if_by (truth_of v) _ _ _ _ (execute_further a ls rest) (execute_further b ls rest))
      execute_further (While e s) ls qs = turns_further (evaluate classes calls e) (execute classes calls s)
          (valued e) (execute_further s) (length qs) (length (qs ++ more)) (omega (arith, length-append qs more)) ls qs
      execute_further (Break m) ls qs = completes _ ls qs
      execute_further (Continue m) ls qs = completes _ ls qs
      execute_further ReturnNothing ls qs = completes _ ls qs
      execute_further (ReturnValue e) ls qs = on_value_further _ _ ls _ _ (valued e ls qs)
          (λ v rest. completes _ _ rest)
      execute_further (Try b f) ls qs = finally_further _ _ _ _ (execute_further b ls qs) (execute_further f)

      pub execute_all_further : (ss : Statements) (ls : List Value) (qs : Answers) →
          FurtherBy (execute_all classes calls ss ls qs) (execute_all classes calls ss ls (qs ++ more))
      execute_all_further checked.Done ls qs = completes _ ls qs
      execute_all_further (Then s ss) ls qs = then_do_further _ _ _ _ (execute_further s ls qs)
          (execute_all_further ss)

  -- ---- methods

  leave_further : (r : Option ValueType) (x y : Executed) → FurtherBy x y → Further (leave r x) (leave r y)
  leave_further r (AsksFor a s) y h = record { is = h.is }
  leave_further r (Completes Normal ls rest) y h = rw h.is (results _ rest)
  leave_further r (Completes (Broke m) ls rest) y h = rw h.is (results _ rest)
  leave_further r (Completes (Continued m) ls rest) y h = rw h.is (results _ rest)
  leave_further r (Completes (Returned None) ls rest) y h = rw h.is (results _ rest)
  leave_further r (Completes (Returned (Some v)) ls rest) y h = rw h.is (results _ rest)
  leave_further r (Completes (Threw kind) ls rest) y h = rw h.is (record { is = refl })

  body_further : (file : File) (calls : Calls) →
      CallsFurther calls →
      (m : Option Method) (vs : List Value) (qs : Answers) →
      Further (run_body file calls m vs qs) (run_body file calls m vs (qs ++ more))
  body_further file calls called None vs qs = results _ qs
  body_further file calls called (Some m) vs qs = leave_further m.result _ _
      (execute_further file.classes calls called m.body (frame m.slots vs) qs)

  pub invoke_further : (file : File) (d : ℕ) → CallsFurther (invoke file d)
  unfolding invoke
  invoke_further file zero m vs qs = record { is = refl }
  invoke_further file (suc d) m vs qs = with_further _ _ _ _ (announced (Enter m) qs (λ h. h))
      (λ v rest. body_further file (invoke file d) (invoke_further file d) (slice_get file.methods m) vs rest)

  -- ---- a call after its event

  pub body_of_call : (file : File) (program : Program) (n : ℕ) (c : ProgramCall) (y : Answer Value) (q : Answers) →
      Further (one_call file program n c (y ∷ q)) (one_call file program n c (y ∷ q ++ more))
  body_of_call file program n (Making name c text values) y q =
      with_further _ _ _ _ (asked _ _ q (λ h. h)) (λ o rest.
      with_further _ _ _ _ (invoke_further file depth_limit _ (o ∷ values) rest) (λ u rest.
      with_further _ _ _ _ (announced (WriteName name o) rest (λ h. h)) (λ u rest. results _ rest)))
  body_of_call file program n (Calling name m text result values) y q =
      with_further _ _ _ _ (asked _ _ q (λ h. h)) (λ o rest.
      null_further (reference_of o) rest _ _
      (with_further _ _ _ _ (invoke_further file depth_limit m (o ∷ values) rest) (λ v rest. results _ rest)))
