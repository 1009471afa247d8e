-- A course that ends has taken its first answers alone: with others after these, it ends so with the others left.
use Rattle.std.proofs.Common.{◌≡◌, ℕ, zero, suc, ◌<◌, ◌≤◌, Bool, true, false, cond, List, [], ◌∷◌, ◌++◌, length}
use Rattle.std.proofs.Common.{Option}
use Rattle.std.proofs.Common.{◌+◌, Some, None, refl, sym, ap, ◌∙◌, arith, append_assoc, length-append}
use Rattle.std.specs.Prelude.{nat_eq, pos, int_lt, slice_get}
use Rattle.ls_events.specs.declared.kind.Kind.{Kind}
use Rattle.ls_events.specs.declared.kind.Kind.TheVariants.{NullPointer, Arithmetic, NegativeArraySize}
use Rattle.ls_events.specs.declared.action.Action.{Action}
use Rattle.ls_events.specs.declared.action.Action.TheVariants.{Enter, WriteName}
use Rattle.ls_events.specs.declared.action.Answer.TheVariants.{Done, Gives, Fails}
use Rattle.ls_events.specs.declared.value.Value.{Value}
use Rattle.ls_events.specs.declared.value.ValueType.{ValueType}
use Rattle.ls_checked.specs.declared.tree.Operator.{Operator}
use Rattle.ls_checked.specs.declared.tree.Called.{Called}
use Rattle.ls_checked.specs.declared.tree.Called.TheVariants.{Method as OfMethod, LockIt, UnlockIt, TryIt, AskIt}
use Rattle.ls_checked.specs.declared.tree.Called.TheVariants.{HoldMonitor, FreeMonitor, GetReference, IsMarked}
use Rattle.ls_checked.specs.declared.tree.Called.TheVariants.{GetBoth}
use Rattle.ls_checked.specs.declared.tree.Called.TheVariants.{SetBoth, CompareAndSet, Attempt}
use Rattle.ls_checked.specs.CheckedTree.{Class, Method, File, Expression, Literal, Slot, Field, Item, Negate, Not}
use Rattle.ls_checked.specs.CheckedTree.{Binary, And, Or, Call, MakeObject, MakeLock, MakeMarkable, MakeArray}
use Rattle.ls_checked.specs.CheckedTree.{Expressions, End, More, Statement, Block, SetSlot, SetField, AddField}
use Rattle.ls_checked.specs.CheckedTree.{SetItem}
use Rattle.ls_checked.specs.CheckedTree.{Evaluate, If, While, Break, Continue, ReturnNothing, ReturnValue, Try}
use Rattle.ls_checked.specs.CheckedTree.{Statements, Then}
use Rattle.ls_checked.specs.CheckedTree as checked
use Rattle.ls_checked.specs.CheckedProgram.{Program, ProgramCall, Making, Calling}
use Rattle.ls_meaning.specs.declared.sort.Sort.{Sort}
use Rattle.ls_meaning.specs.declared.completion.Completion.{Completion}
use Rattle.ls_meaning.specs.declared.completion.Completion.TheVariants.{Normal, Broke, Continued, Returned, Threw}
use Rattle.ls_meaning.specs.Values.{truth_of, int_of, divides_by_zero, operated, reference_of}
use Rattle.ls_meaning.specs.Course.{Answers, Evaluated, Asks, Results, Throws, ask, tell, with_value, unless_null}
use Rattle.ls_meaning.specs.Expressions.{Calls, evaluate, arguments, call, operate}
use Rattle.ls_meaning.specs.Statements.{Executed, AsksFor, Completes, on_value, then_do, finally_do, turn_back}
use Rattle.ls_meaning.specs.Statements.{after_body, one_turn, turns, execute, execute_all}
use Rattle.ls_meaning.specs.Methods.{leave, run_body, frame, invoke, depth_limit}
use Rattle.ls_meaning.specs.Threads.{one_call}
use Rattle.ls_meaning.proofs.Shorter.{CallsWithin, Within, WithinBy, evaluate_within, execute_within, invoke_within}
use Rattle.ls_meaning.proofs.Shorter.{turn_eq, turns_eq}

-- ---- the answers that are taken

-- The answers are some, and then these; and with others after the first it is what it becomes with those.
pub record Past {R : Type 0} (f : Answers → R) (qs rest : Answers) (ends : Answers → R) : Type 0 where
  pub before : Answers
  pub whole : qs ≡ before ++ rest
  pub again : (more : Answers) → f (before ++ more) ≡ ends more

now : {R : Type 0} (ends : Answers → R) (qs : Answers) → Past ends qs qs ends
now ends qs = record { before = []; whole = refl; again = λ more. refl }

onward : {R S : Type 0} (f : Answers → R) (qs rest : Answers) (ends : Answers → R) (h : R → S) →
    Past f qs rest ends →
    Past (λ q. h (f q)) qs rest (λ q. h (ends q))
onward f qs rest ends h p = record { before = p.before; whole = p.whole; again = λ more. ap h (p.again more) }

join : {R : Type 0} (f g : Answers → R) (qs rest last : Answers) (ends : Answers → R) →
    Past f qs rest g →
    Past g rest last ends →
    Past f qs last ends
join f g qs rest last ends p r = record {
  before = p.before ++ r.before;
  whole = p.whole ∙ ap (λ l. p.before ++ l) r.whole ∙ sym (append_assoc p.before r.before last);
  again = λ more. ap f (append_assoc p.before r.before more) ∙ p.again (r.before ++ more) ∙ r.again more;
}

shorter : {R : Type 0} (f : Answers → R) (qs rest : Answers) (ends : Answers → R) →
    Past f qs rest ends →
    length rest ≤ length qs
shorter f qs rest ends p =
    let e : length qs ≡ length p.before + length rest = ap length p.whole ∙ length-append p.before rest in
    omega (arith, e)

-- ---- evaluations

abbrev pub EndsSo : {A : Type 0} → (Answers → Evaluated A) → Answers → Evaluated A → Type 0
EndsSo f qs (Asks a s) = Unit {0}
EndsSo f qs (Results v rest) = Past f qs rest (λ q. Results v q)
EndsSo f qs (Throws k rest) = Past f qs rest (λ q. Throws k q)

pub record Splits {A : Type 0} (f : Answers → Evaluated A) (qs : Answers) (x : Evaluated A) : Type 0 where
  pub is : EndsSo f qs x

results : {A : Type 0} (v : A) (qs : Answers) → Splits (λ q. Results v q) qs (Results v qs)
results v qs = record { is = now (λ q. Results v q) qs }

throws : {A : Type 0} (k : Kind) (qs : Answers) → Splits {A = A} (λ q. Throws k q) qs (Throws k qs)
throws k qs = record { is = now (λ q. Throws k q) qs }

joined : {A : Type 0} (f g : Answers → Evaluated A) (qs rest : Answers) (y : Evaluated A) →
    Past f qs rest g →
    Splits g rest y →
    Splits f qs y
joined f g qs rest (Asks a s) p h = record { is = tt }
joined f g qs rest (Results v last) p h = record { is = join f g qs rest last (λ q. Results v q) p h.is }
joined f g qs rest (Throws k last) p h = record { is = join f g qs rest last (λ q. Throws k q) p h.is }

with_splits : {A B : Type 0} (f : Answers → Evaluated A) (go : A → Answers → Evaluated B) (qs : Answers)
    (x : Evaluated A) →
    Splits f qs x →
    ((v : A) (rest : Answers) → Splits (go v) rest (go v rest)) →
    Splits (λ q. with_value (f q) go) qs (with_value x go)
with_splits f go qs (Asks a s) h k = record { is = tt }
with_splits f go qs (Results v rest) h k =
    joined (λ q. with_value (f q) go) (go v) qs rest (go v rest)
    (onward f qs rest (λ q. Results v q) (λ x. with_value x go) h.is) (k v rest)
with_splits f go qs (Throws kind rest) h k =
    record { is = onward f qs rest (λ q. Throws kind q) (λ x. with_value x go) h.is }

asked : (a : Action Value) (s : Sort) (qs : Answers) → Splits (ask a s) qs (ask a s qs)
asked a s [] = record { is = tt }
asked a s (Done ∷ rest) = record { is = record { before = Done ∷ []; whole = refl; again = λ more. refl } }
asked a s (Gives v ∷ rest) = record { is = record { before = Gives v ∷ []; whole = refl; again = λ more. refl } }
asked a s (Fails k ∷ rest) = record { is = record { before = Fails k ∷ []; whole = refl; again = λ more. refl } }

announced : (a : Action Value) (qs : Answers) → Splits (tell a) qs (tell a qs)
announced a [] = record { is = tt }
announced a (x ∷ rest) = record { is = record { before = x ∷ []; whole = refl; again = λ more. refl } }

either : {A : Type 0} (b : Bool) (f g : Answers → Evaluated A) (qs : Answers) →
    Splits f qs (f qs) →
    Splits g qs (g qs) →
    Splits (λ q. cond b (f q) (g q)) qs (cond b (f qs) (g qs))
either true f g qs h k = h
either false f g qs h k = k

null_splits : {A : Type 0} (m : ℕ) (f : Answers → Evaluated A) (qs : Answers) →
    Splits f qs (f qs) →
    Splits (λ q. unless_null m q (f q)) qs (unless_null m qs (f qs))
null_splits m f qs h = either (nat_eq m 0) (λ q. Throws NullPointer q) f qs (throws NullPointer qs) h

abbrev pub CallsSplit : Calls → Type 0
CallsSplit calls = (m : ℕ) (vs : List Value) (qs : Answers) → Splits (calls m vs) qs (calls m vs qs)

operate_splits : (op : Operator) (x y : Value) (qs : Answers) → Splits (operate op x y) qs (operate op x y qs)
operate_splits op x y qs = either (divides_by_zero op y) (λ q. Throws Arithmetic q) (λ q. Results (operated op x y) q)
    qs (throws Arithmetic qs) (results (operated op x y) qs)

module _ (calls : Calls) (called : CallsSplit calls) where
  call_splits : (c : Called) (o : Value) (vs : List Value) (qs : Answers) →
      Splits (call calls c o vs) qs (call calls c o vs qs)
  call_splits (OfMethod m) o vs qs = called m (o ∷ vs) qs
  call_splits LockIt o vs qs = asked _ _ qs
  call_splits UnlockIt o vs qs = asked _ _ qs
  call_splits TryIt o vs qs = asked _ _ qs
  call_splits AskIt o vs qs = asked _ _ qs
  call_splits (HoldMonitor c) o vs qs = asked _ _ qs
  call_splits (FreeMonitor c) o vs qs = asked _ _ qs
  call_splits (GetReference c) o vs qs = with_splits _ _ qs _ (asked _ _ qs) (λ p rest. results _ rest)
  call_splits (IsMarked c) o vs qs = with_splits _ _ qs _ (asked _ _ qs) (λ p rest. results _ rest)
  call_splits (GetBoth c) o vs qs = with_splits _ _ qs _ (asked _ _ qs)
      (λ p rest. null_splits _ _ rest (with_splits _ _ rest _ (asked _ _ rest) (λ u rest. results _ rest)))
  call_splits SetBoth o vs qs = asked _ _ qs
  call_splits CompareAndSet o vs qs = asked _ _ qs
  call_splits Attempt o vs qs = asked _ _ qs

  module _ (classes : List Class) where
    mutual
      evaluate_splits : (e : Expression) (ls : List Value) (qs : Answers) →
          Splits (evaluate classes calls e ls) qs (evaluate classes calls e ls qs)
      evaluate_splits (Literal v) ls qs = results _ qs
      evaluate_splits (Slot i) ls qs = results _ qs
      evaluate_splits (Field e c f) ls qs = with_splits _ _ qs _ (evaluate_splits e ls qs)
          (λ o rest. null_splits _ _ rest (asked _ _ rest))
      evaluate_splits (Item a i) ls qs = with_splits _ _ qs _ (evaluate_splits a ls qs)
          (λ o rest. with_splits _ _ rest _ (evaluate_splits i ls rest)
          (λ m rest. null_splits _ _ rest (asked _ _ rest)))
      evaluate_splits (Negate e) ls qs = with_splits _ _ qs _ (evaluate_splits e ls qs) (λ v rest. results _ rest)
      evaluate_splits (Not e) ls qs = with_splits _ _ qs _ (evaluate_splits e ls qs) (λ v rest. results _ rest)
      evaluate_splits (Binary op a b) ls qs = with_splits _ _ qs _ (evaluate_splits a ls qs)
          (λ x rest. with_splits _ _ rest _ (evaluate_splits b ls rest) (λ y rest. operate_splits op x y rest))
      evaluate_splits (And a b) ls qs = with_splits _ _ qs _ (evaluate_splits a ls qs)
          (λ x rest. either (truth_of x) _ _ rest (evaluate_splits b ls rest) (results _ rest))
      evaluate_splits (Or a b) ls qs = with_splits _ _ qs _ (evaluate_splits a ls qs)
          (λ x rest. either (truth_of x) _ _ rest (results _ rest) (evaluate_splits b ls rest))
      evaluate_splits (Call e c es) ls qs = with_splits _ _ qs _ (evaluate_splits e ls qs)
          (λ o rest. with_splits _ _ rest _ (arguments_splits es ls rest)
          (λ vs rest. null_splits _ _ rest (call_splits c o vs rest)))
      evaluate_splits (MakeObject c es) ls qs = with_splits _ _ qs _ (asked _ _ qs)
          (λ o rest. with_splits _ _ rest _ (arguments_splits es ls rest)
          (λ vs rest. with_splits _ _ rest _ (called _ _ rest) (λ u rest. results _ rest)))
      evaluate_splits MakeLock ls qs = asked _ _ qs
      evaluate_splits (MakeMarkable c es) ls qs = with_splits _ _ qs _ (arguments_splits es ls qs)
          (λ vs rest. asked _ _ rest)
      evaluate_splits (MakeArray e) ls qs = with_splits _ _ qs _ (evaluate_splits e ls qs)
          (λ v rest. either (int_lt (int_of v) (pos 0)) _ _ rest (throws NegativeArraySize rest) (asked _ _ rest))

      arguments_splits : (es : Expressions) (ls : List Value) (qs : Answers) →
          Splits (arguments classes calls es ls) qs (arguments classes calls es ls qs)
      arguments_splits End ls qs = results _ qs
      arguments_splits (More e es) ls qs = with_splits _ _ qs _ (evaluate_splits e ls qs)
          (λ v rest. with_splits _ _ rest _ (arguments_splits es ls rest) (λ vs rest. results _ rest))

-- ---- statements

abbrev pub EndsSoBy : (Answers → Executed) → Answers → Executed → Type 0
EndsSoBy f qs (AsksFor a s) = Unit {0}
EndsSoBy f qs (Completes c ls rest) = Past f qs rest (λ q. Completes c ls q)

pub record SplitsBy (f : Answers → Executed) (qs : Answers) (x : Executed) : Type 0 where
  pub is : EndsSoBy f qs x

completes : (c : Completion Value) (ls : List Value) (qs : Answers) →
    SplitsBy (λ q. Completes c ls q) qs (Completes c ls qs)
completes c ls qs = record { is = now (λ q. Completes c ls q) qs }

joined_by : (f g : Answers → Executed) (qs rest : Answers) (y : Executed) →
    Past f qs rest g →
    SplitsBy g rest y →
    SplitsBy f qs y
joined_by f g qs rest (AsksFor a s) p h = record { is = tt }
joined_by f g qs rest (Completes c ls last) p h =
    record { is = join f g qs rest last (λ q. Completes c ls q) p h.is }

on_value_splits : (f : Answers → Evaluated Value) (ls : List Value) (go : Value → Answers → Executed) (qs : Answers)
    (x : Evaluated Value) →
    Splits f qs x →
    ((v : Value) (rest : Answers) → length rest ≤ length qs → SplitsBy (go v) rest (go v rest)) →
    SplitsBy (λ q. on_value (f q) ls go) qs (on_value x ls go)
on_value_splits f ls go qs (Asks a s) h k = record { is = tt }
on_value_splits f ls go qs (Results v rest) h k =
    joined_by (λ q. on_value (f q) ls go) (go v) qs rest (go v rest)
    (onward f qs rest (λ q. Results v q) (λ x. on_value x ls go) h.is)
    (k v rest (shorter f qs rest (λ q. Results v q) h.is))
on_value_splits f ls go qs (Throws kind rest) h k =
    record { is = onward f qs rest (λ q. Throws kind q) (λ x. on_value x ls go) h.is }

abbrev GoSplits : (List Value → Answers → Executed) → Type 0
GoSplits go = (ls : List Value) (rest : Answers) → SplitsBy (go ls) rest (go ls rest)

then_do_splits : (f : Answers → Executed) (go : List Value → Answers → Executed) (qs : Answers) (x : Executed) →
    SplitsBy f qs x →
    GoSplits go →
    SplitsBy (λ q. then_do (f q) go) qs (then_do x go)
then_do_splits f go qs (AsksFor a s) h k = record { is = tt }
then_do_splits f go qs (Completes Normal ls rest) h k =
    joined_by (λ q. then_do (f q) go) (go ls) qs rest (go ls rest)
    (onward f qs rest (λ q. Completes Normal ls q) (λ x. then_do x go) h.is) (k ls rest)
then_do_splits f go qs (Completes (Broke m) ls rest) h k =
    record { is = onward f qs rest (λ q. Completes (Broke m) ls q) (λ x. then_do x go) h.is }
then_do_splits f go qs (Completes (Continued m) ls rest) h k =
    record { is = onward f qs rest (λ q. Completes (Continued m) ls q) (λ x. then_do x go) h.is }
then_do_splits f go qs (Completes (Returned v) ls rest) h k =
    record { is = onward f qs rest (λ q. Completes (Returned v) ls q) (λ x. then_do x go) h.is }
then_do_splits f go qs (Completes (Threw kind) ls rest) h k =
    record { is = onward f qs rest (λ q. Completes (Threw kind) ls q) (λ x. then_do x go) h.is }

finally_splits : (f : Answers → Executed) (go : List Value → Answers → Executed) (qs : Answers) (x : Executed) →
    SplitsBy f qs x →
    GoSplits go →
    SplitsBy (λ q. finally_do (f q) go) qs (finally_do x go)
finally_splits f go qs (AsksFor a s) h k = record { is = tt }
finally_splits f go qs (Completes c ls rest) h k =
    joined_by (λ q. finally_do (f q) go) (λ q. finally_do (Completes c ls q) go) qs rest
    (finally_do (Completes c ls rest) go)
    (onward f qs rest (λ q. Completes c ls q) (λ x. finally_do x go) h.is)
    (then_do_splits (go ls) (λ ls r. Completes c ls r) rest (go ls rest) (k ls rest) (λ ls r. completes c ls r))

if_splits : (b : Bool) (f g : Answers → Executed) (qs : Answers) →
    SplitsBy f qs (f qs) →
    SplitsBy g qs (g qs) →
    SplitsBy (λ q. cond b (f q) (g q)) qs (cond b (f qs) (g qs))
if_splits true f g qs h k = h
if_splits false f g qs h k = k

-- ---- loops

-- what is the same with all answers splits the same
same_splits : (f g : Answers → Executed) (qs : Answers) (y : Executed) → ((q : Answers) → f q ≡ g q) →
    SplitsBy g qs y →
    SplitsBy f qs y
same_splits f g qs (AsksFor a s) e h = record { is = tt }
same_splits f g qs (Completes c ls rest) e h = record {
  is = record {
    before = h.is.before;
    whole = h.is.whole;
    again = λ more. e (h.is.before ++ more) ∙ h.is.again more;
  };
}

module _ (again : List Value → Answers → Executed) where
  -- what goes on with fewer answers splits
  abbrev BelowSplits : ℕ → Type 0
  BelowSplits n = (ls : List Value) (rest : Answers) → length rest < n → SplitsBy (again ls) rest (again ls rest)

  back_splits : (ls : List Value) (qs : Answers) → BelowSplits (length qs) →
      SplitsBy (turn_back again ls) qs (turn_back again ls qs)
  back_splits ls [] k = record { is = tt }
  back_splits ls (y ∷ rest) k =
      joined_by (turn_back again ls) (again ls) (y ∷ rest) rest (again ls rest)
      (record { before = y ∷ []; whole = refl; again = λ more. refl }) (k ls rest (omega arith))

  back_within : (f : Answers → Executed) (ls : List Value) (qs rest : Answers) → BelowSplits (length qs) →
      Past f qs rest (turn_back again ls) →
      SplitsBy f qs (turn_back again ls rest)
  back_within f ls qs rest k p = joined_by f (turn_back again ls) qs rest (turn_back again ls rest) p
      (back_splits ls rest (λ new r less. let le = shorter f qs rest (turn_back again ls) p in
      k new r (omega (arith, less, le))))

  body_splits : (f : Answers → Executed) (qs : Answers) (x : Executed) → BelowSplits (length qs) →
      SplitsBy f qs x →
      SplitsBy (λ q. after_body (f q) again) qs (after_body x again)
  body_splits f qs (AsksFor a s) k h = record { is = tt }
  body_splits f qs (Completes Normal ls rest) k h =
      back_within (λ q. after_body (f q) again) ls qs rest k
      (onward f qs rest (λ q. Completes Normal ls q) (λ x. after_body x again) h.is)
  body_splits f qs (Completes (Continued zero) ls rest) k h =
      back_within (λ q. after_body (f q) again) ls qs rest k
      (onward f qs rest (λ q. Completes (Continued zero) ls q) (λ x. after_body x again) h.is)
  body_splits f qs (Completes (Continued (suc m)) ls rest) k h =
      record { is = onward f qs rest (λ q. Completes (Continued (suc m)) ls q) (λ x. after_body x again) h.is }
  body_splits f qs (Completes (Broke zero) ls rest) k h =
      record { is = onward f qs rest (λ q. Completes (Broke zero) ls q) (λ x. after_body x again) h.is }
  body_splits f qs (Completes (Broke (suc m)) ls rest) k h =
      record { is = onward f qs rest (λ q. Completes (Broke (suc m)) ls q) (λ x. after_body x again) h.is }
  body_splits f qs (Completes (Returned v) ls rest) k h =
      record { is = onward f qs rest (λ q. Completes (Returned v) ls q) (λ x. after_body x again) h.is }
  body_splits f qs (Completes (Threw kind) ls rest) k h =
      record { is = onward f qs rest (λ q. Completes (Threw kind) ls q) (λ x. after_body x again) h.is }

module _ (condition : List Value → Answers → Evaluated Value) (body : List Value → Answers → Executed)
    (tested : (n : ℕ) (ls : List Value) (qs : Answers) → length qs ≤ n → Within n (condition ls qs))
    (done : (n : ℕ) (ls : List Value) (qs : Answers) → length qs ≤ n → WithinBy n (body ls qs))
    (condition_splits : (ls : List Value) (qs : Answers) → Splits (condition ls) qs (condition ls qs))
    (each_splits : GoSplits body) where
  abbrev loop : List Value → Answers → Executed
  loop ls qs = turns (length qs) condition body ls qs

  unrolled : (ls : List Value) (qs : Answers) → loop ls qs ≡ one_turn condition body loop ls qs
  unrolled ls qs =
      turns_eq condition body tested done (length qs) (suc (length qs)) ls qs (omega arith) (omega arith)
      ∙ turn_eq condition body tested done (length qs) (turns (length qs) condition body) loop
      (λ ls rest less. turns_eq condition body tested done (length qs) (length rest) ls rest (omega (arith, less))
      (omega arith)) ls qs (omega arith)

  loop_splits : (n : ℕ) (ls : List Value) (qs : Answers) → length qs < n → SplitsBy (loop ls) qs (loop ls qs)
  loop_splits zero ls qs less = absurd (let none : ⊥ = omega (arith, less) in none)
  loop_splits (suc n) ls qs less = rw (unrolled ls qs)
      (same_splits (loop ls) (one_turn condition body loop ls) qs (one_turn condition body loop ls qs) (unrolled ls)
      (on_value_splits (condition ls) ls _ qs (condition ls qs) (condition_splits ls qs)
      (λ v rest le. if_splits (truth_of v) (λ q. after_body (body ls q) loop) (λ q. Completes Normal ls q) rest
      (body_splits loop (body ls) rest (body ls rest)
      (λ ls r fewer. loop_splits n ls r (omega (arith, fewer, le, less))) (each_splits ls rest))
      (completes Normal ls rest))))

-- ---- methods

module _ (classes : List Class) (calls : Calls) (called : CallsSplit calls) (within : CallsWithin calls) where
  value_splits : (e : Expression) (ls : List Value) (qs : Answers) →
      Splits (evaluate classes calls e ls) qs (evaluate classes calls e ls qs)
  value_splits = evaluate_splits calls called classes

  mutual
    execute_splits : (s : Statement) (ls : List Value) (qs : Answers) →
        SplitsBy (execute classes calls s ls) qs (execute classes calls s ls qs)
    execute_splits (Block ss) ls qs = execute_all_splits ss ls qs
    execute_splits (SetSlot m e) ls qs = on_value_splits _ ls _ qs _ (value_splits e ls qs)
        (λ v rest le. completes _ _ rest)
    execute_splits (SetField e f v) ls qs = on_value_splits _ ls _ qs _
        (with_splits _ _ qs _ (value_splits e ls qs)
        (λ o rest. with_splits _ _ rest _ (value_splits v ls rest)
        (λ v rest. null_splits _ _ rest (asked _ _ rest)))) (λ v rest le. completes _ _ rest)
    execute_splits (AddField e f v) ls qs = on_value_splits _ ls _ qs _
        (with_splits _ _ qs _ (value_splits e ls qs)
        (λ o rest. with_splits _ _ rest _ (null_splits _ _ rest (asked _ _ rest))
        (λ x rest. with_splits _ _ rest _ (value_splits v ls rest)
        (λ y rest. null_splits _ _ rest (asked _ _ rest))))) (λ v rest le. completes _ _ rest)
    execute_splits (SetItem a i v) ls qs = on_value_splits _ ls _ qs _
        (with_splits _ _ qs _ (value_splits a ls qs)
        (λ o rest. with_splits _ _ rest _ (value_splits i ls rest)
        (λ m rest. with_splits _ _ rest _ (value_splits v ls rest)
        (λ v rest. null_splits _ _ rest (asked _ _ rest))))) (λ v rest le. completes _ _ rest)
    execute_splits (Evaluate e) ls qs = on_value_splits _ ls _ qs _ (value_splits e ls qs)
        (λ v rest le. completes _ _ rest)
    execute_splits (If e a b) ls qs = on_value_splits _ ls _ qs _ (value_splits e ls qs)
        (λ v rest le. if_splits (truth_of v) _ _ rest (execute_splits a ls rest) (execute_splits b ls rest))
    execute_splits (While e s) ls qs = loop_splits (evaluate classes calls e) (execute classes calls s)
        (λ n. evaluate_within calls within n classes e) (execute_within classes calls within s)
        (value_splits e) (execute_splits s) (suc (length qs)) ls qs (omega arith)
    execute_splits (Break m) ls qs = completes _ ls qs
    execute_splits (Continue m) ls qs = completes _ ls qs
    execute_splits ReturnNothing ls qs = completes _ ls qs
    execute_splits (ReturnValue e) ls qs = on_value_splits _ ls _ qs _ (value_splits e ls qs)
        (λ v rest le. completes _ _ rest)
    execute_splits (Try b f) ls qs = finally_splits _ _ qs _ (execute_splits b ls qs) (execute_splits f)

    execute_all_splits : (ss : Statements) (ls : List Value) (qs : Answers) →
        SplitsBy (execute_all classes calls ss ls) qs (execute_all classes calls ss ls qs)
    execute_all_splits checked.Done ls qs = completes _ ls qs
    execute_all_splits (Then s ss) ls qs = then_do_splits _ _ qs _ (execute_splits s ls qs) (execute_all_splits ss)

leave_splits : (r : Option ValueType) (f : Answers → Executed) (qs : Answers) (x : Executed) → SplitsBy f qs x →
    Splits (λ q. leave r (f q)) qs (leave r x)
leave_splits r f qs (AsksFor a s) h = record { is = tt }
leave_splits r f qs (Completes Normal ls rest) h =
    record { is = onward f qs rest (λ q. Completes Normal ls q) (leave r) h.is }
leave_splits r f qs (Completes (Broke m) ls rest) h =
    record { is = onward f qs rest (λ q. Completes (Broke m) ls q) (leave r) h.is }
leave_splits r f qs (Completes (Continued m) ls rest) h =
    record { is = onward f qs rest (λ q. Completes (Continued m) ls q) (leave r) h.is }
leave_splits r f qs (Completes (Returned None) ls rest) h =
    record { is = onward f qs rest (λ q. Completes (Returned None) ls q) (leave r) h.is }
leave_splits r f qs (Completes (Returned (Some v)) ls rest) h =
    record { is = onward f qs rest (λ q. Completes (Returned (Some v)) ls q) (leave r) h.is }
leave_splits r f qs (Completes (Threw kind) ls rest) h =
    record { is = onward f qs rest (λ q. Completes (Threw kind) ls q) (leave r) h.is }

run_splits : (file : File) (calls : Calls) → CallsSplit calls → CallsWithin calls →
    (m : Option Method) (vs : List Value) (qs : Answers) →
    Splits (run_body file calls m vs) qs (run_body file calls m vs qs)
run_splits file calls called within None vs qs = results _ qs
run_splits file calls called within (Some m) vs qs = leave_splits m.result _ qs _
    (execute_splits file.classes calls called within m.body (frame m.slots vs) qs)

pub invoke_splits : (file : File) (d : ℕ) → CallsSplit (invoke file d)
unfolding invoke
invoke_splits file zero m vs qs = throws _ qs
invoke_splits file (suc d) m vs qs = with_splits _ _ qs _ (announced (Enter m) qs)
    (λ v rest. run_splits file (invoke file d) (invoke_splits file d) (invoke_within file d)
    (slice_get file.methods m) vs rest)

-- ---- a call of a program

pub call_of_program_splits : (file : File) (program : Program) (n : ℕ) (c : ProgramCall) (qs : Answers) →
    Splits (one_call file program n c) qs (one_call file program n c qs)
call_of_program_splits file program n (Making name c text values) qs =
    with_splits _ _ qs _ (announced _ qs) (λ u rest.
    with_splits _ _ rest _ (asked _ _ rest) (λ o rest.
    with_splits _ _ rest _ (invoke_splits file depth_limit _ (o ∷ values) rest) (λ u rest.
    with_splits _ _ rest _ (announced (WriteName name o) rest) (λ u rest. results _ rest))))
call_of_program_splits file program n (Calling name m text result values) qs =
    with_splits _ _ qs _ (announced _ qs) (λ u rest.
    with_splits _ _ rest _ (asked _ _ rest) (λ o rest.
    null_splits (reference_of o) _ rest
    (with_splits _ _ rest _ (invoke_splits file depth_limit m (o ∷ values) rest) (λ v rest. results _ rest))))
