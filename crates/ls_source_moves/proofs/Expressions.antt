-- What the moves of expressions, and the ends of statements, mean.
use Rattle.std.proofs.Common.{◌≡◌, ℕ, zero, suc, ◌-◌, Bool, true, false, cond, List, [], ◌∷◌, ◌++◌, Option, Some}
use Rattle.std.proofs.Common.{None, refl, sym, ap, ◌∙◌, arith}
use Rattle.std.specs.Prelude.{nat_eq, pos, int_lt, slice_get}
use Rattle.std.proofs.lemmas.Bool.Decides.{nat_tests}
use Rattle.std.proofs.lemmas.List.{append-nil}
use Rattle.ls_events.specs.declared.value.Value.{Value}
use Rattle.ls_events.specs.declared.value.Value.TheVariants as values
use Rattle.ls_events.specs.declared.value.ValueType.{ValueType}
use Rattle.ls_events.specs.declared.value.ValueType.TheVariants as types
use Rattle.ls_events.specs.declared.kind.Kind.TheVariants.{Arithmetic, NullPointer, StackOverflow}
use Rattle.ls_events.specs.declared.action.Action.TheVariants.{New, ReadPair, WriteItem}
use Rattle.ls_checked.specs.declared.tree.Operator.{Operator}
use Rattle.ls_checked.specs.declared.tree.Called.{Called}
use Rattle.ls_checked.specs.declared.tree.Called.TheVariants.{Method as OfMethod, LockIt, UnlockIt, TryIt, AskIt}
use Rattle.ls_checked.specs.declared.tree.Called.TheVariants.{HoldMonitor, FreeMonitor, GetReference, IsMarked}
use Rattle.ls_checked.specs.declared.tree.Called.TheVariants.{GetBoth, SetBoth, CompareAndSet, Attempt}
use Rattle.ls_checked.specs.CheckedTree.{File, Expression, Literal, Slot, Field, Item, Negate, Not, Binary}
use Rattle.ls_checked.specs.CheckedTree.{And, Or, Call, MakeObject, MakeLock, MakeMarkable, MakeArray, Expressions}
use Rattle.ls_checked.specs.CheckedTree.{End, More, Statement, Block, SetSlot, SetField, AddField, SetItem, Evaluate}
use Rattle.ls_checked.specs.CheckedTree.{If, While, Break, Continue, ReturnNothing, ReturnValue, Try, Statements}
use Rattle.ls_checked.specs.CheckedTree.{Done, Then}
use Rattle.ls_meaning.specs.declared.sort.Sort.TheVariants.{NewOf, PairOf}
use Rattle.ls_meaning.specs.declared.completion.Completion.{Completion}
use Rattle.ls_meaning.specs.declared.completion.Completion.TheVariants.{Normal, Broke, Continued, Returned, Threw}
use Rattle.ls_meaning.specs.Values.{int_of, truth_of, reference_of, mark_of, operated, divides_by_zero, nothing}
use Rattle.ls_meaning.specs.Course.{Answers, Evaluated, Results, Throws, ask, with_value}
use Rattle.ls_meaning.specs.Expressions.{operate, evaluate, arguments, call, argument, constructor_of}
use Rattle.ls_meaning.specs.Statements.{Executed, AsksFor, Completes, then_do, after_body, execute, execute_all}
use Rattle.ls_meaning.specs.Methods.{invoke, run_body, leave}
use Rattle.ls_source_pending.specs.Pending.{Purpose, ToCall, ToMake, ToMark, Operand, InField, InItem, InIndex}
use Rattle.ls_source_pending.specs.Pending.{InNegate, InNot, InLength, InLeft, InRight, InAnd, InOr, InTarget}
use Rattle.ls_source_pending.specs.Pending.{InArgument, InMade, InConstructor, InReference, InMark, InBoth, InWritten}
use Rattle.ls_source_pending.specs.Pending.{Ending, OfSequence, OfBody, OfTry, OfFinally, Frame, In, On, Up, Leaves}
use Rattle.ls_source_pending.specs.Pending.{Control, Ends, Enters, Turns}
use Rattle.ls_source_pending.specs.ExpressionMoves.{at, known, on_argument, on_right, on_left, on_target, on_called}
use Rattle.ls_source_pending.specs.ExpressionMoves.{evaluating, arguing, calling, applying, filling, at_hand, computed}
use Rattle.ls_source_pending.specs.ExpressionMoves.{near, on_read, started, invoking, ready}
use Rattle.ls_source_pending.specs.Moves.{running, if_normal, after_loop, leaving, closing, ending, entering, behind}
use Rattle.ls_source_pending.specs.Meaning.{OfValue, OfEnd, Rest, evaluated, executed, applied, argued, filled, closed}
use Rattle.ls_source_pending.specs.Meaning.{rest_of, done_now, meaning}
use Rattle.ls_source_moves.proofs.Frames.{in_frame, up_frame, one_more, argument_frame, chosen, both_written}

pub some_left : (n : ℕ) → nat_eq (suc n) 0 ≡ false
some_left n = grind (arith, nat_tests)

pub one_less : (n : ℕ) → suc n - 1 ≡ n
one_less n = omega arith

module _ (file : File) (base : Rest) where
  pub invoking_keeps : (d m : ℕ) (vs : List Value) (fs : List Frame) (ls : List Value) (q : Answers) →
      meaning file base (invoking m vs fs ls d) q ≡ evaluated (rest_of file base fs) d ls
      (invoke file d m vs q)
  unfolding invoke
  invoking_keeps zero m vs fs ls q = refl
  invoking_keeps (suc n) m vs fs ls [] = ap (λ b. done_now file (rest_of file base fs)
      (cond b (Ends (Threw StackOverflow)) (Enters m vs)) (suc n) ls []) (some_left n)
  invoking_keeps (suc n) m vs fs ls (a ∷ q) =
      ap (λ b. done_now file (rest_of file base fs) (cond b (Ends (Threw StackOverflow)) (Enters m vs)) (suc n) ls
      (a ∷ q)) (some_left n)
      ∙ ap (λ b. cond b (rest_of file base fs (suc n) ls (OfValue nothing) q)
      (evaluated (rest_of file base fs) (suc n) ls (run_body file (invoke file (suc n - 1))
      (slice_get file.methods m) vs q))) (some_left n)
      ∙ ap (λ i. evaluated (rest_of file base fs) (suc n) ls
      (run_body file (invoke file i) (slice_get file.methods m) vs q)) (one_less n)

module _ (file : File) (base : Rest) (d : ℕ) (q : Answers) where
  abbrev k : List Frame → Rest
  k fs = rest_of file base fs

  abbrev E : Expression → List Value → Evaluated Value
  E e ls = evaluate file.classes (invoke file d) e ls q

  abbrev X : Statement → List Value → Executed
  X s ls = execute file.classes (invoke file d) s ls q

  -- what an operator computes at once is what it computes of the values of its operands
  undivided : (b : Bool) (w v : Value) → cond b None (Some w) ≡ Some v → Results v q ≡ cond b (Throws Arithmetic q)
      (Results w q)
  undivided true w v h = cc
  undivided false w v h = cc

  computed_is : (op : Operator) (o p : Option Value) (a b : Expression) (ls : List Value) (v : Value) →
      ((x : Value) → o ≡ Some x → Results x q ≡ E a ls) →
      ((y : Value) → p ≡ Some y → Results y q ≡ E b ls) →
      computed op o p ≡ Some v →
      Results v q ≡ E (Binary op a b) ls
  computed_is op None p a b ls v f g h = cc
  computed_is op (Some x) None a b ls v f g h = cc
  computed_is op (Some x) (Some y) a b ls v f g h =
      undivided (divides_by_zero op y) (operated op x y) v h
      ∙ ap (λ z. with_value z (λ y q. operate op x y q)) (g y refl)
      ∙ ap (λ z. with_value z (λ x r. with_value (evaluate file.classes (invoke file d) b ls r)
      (λ y q. operate op x y q))) (f x refl)

  -- what is at hand is what is evaluated
  at_hand_is : (e : Expression) (ls : List Value) (v : Value) → at_hand e ls ≡ Some v → Results v q ≡ E e ls
  at_hand_is (Literal w) ls v h = cc
  at_hand_is (Slot n) ls v h = cc
  at_hand_is (Field e c f) ls v h = cc
  at_hand_is (Item a i) ls v h = cc
  at_hand_is (Negate e) ls v h = cc
  at_hand_is (Not e) ls v h = cc
  at_hand_is (Binary op a b) ls v h = cc
  at_hand_is (And a b) ls v h = cc
  at_hand_is (Or a b) ls v h = cc
  at_hand_is (Call e m es) ls v h = cc
  at_hand_is (MakeObject c es) ls v h = cc
  at_hand_is MakeLock ls v h = cc
  at_hand_is (MakeMarkable c es) ls v h = cc
  at_hand_is (MakeArray e) ls v h = cc

  near_is : (e : Expression) (ls : List Value) (v : Value) → near e ls ≡ Some v → Results v q ≡ E e ls
  near_is (Literal w) ls v h = cc
  near_is (Slot n) ls v h = cc
  near_is (Field e c f) ls v h = cc
  near_is (Item a i) ls v h = cc
  near_is (Negate e) ls v h = cc
  near_is (Not e) ls v h = cc
  near_is (Binary op a b) ls v h =
      computed_is op (at_hand a ls) (at_hand b ls) a b ls v (at_hand_is a ls) (at_hand_is b ls) h
  near_is (And a b) ls v h = cc
  near_is (Or a b) ls v h = cc
  near_is (Call e m es) ls v h = cc
  near_is (MakeObject c es) ls v h = cc
  near_is MakeLock ls v h = cc
  near_is (MakeMarkable c es) ls v h = cc
  near_is (MakeArray e) ls v h = cc

  -- what is known is what is evaluated
  pub known_is : (e : Expression) (ls : List Value) (v : Value) → known e ls ≡ Some v → Results v q ≡ E e ls
  known_is (Literal w) ls v h = cc
  known_is (Slot n) ls v h = cc
  known_is (Field e c f) ls v h = cc
  known_is (Item a i) ls v h = cc
  known_is (Negate e) ls v h = cc
  known_is (Not e) ls v h = cc
  known_is (Binary op a b) ls v h =
      computed_is op (near a ls) (near b ls) a b ls v (near_is a ls) (near_is b ls) h
  known_is (And a b) ls v h = cc
  known_is (Or a b) ls v h = cc
  known_is (Call e m es) ls v h = cc
  known_is (MakeObject c es) ls v h = cc
  known_is MakeLock ls v h = cc
  known_is (MakeMarkable c es) ls v h = cc
  known_is (MakeArray e) ls v h = cc

  read_keeps : (o : Option Value) (e : Expression) (c f : ℕ) (fs : List Frame) (ls : List Value) →
      at_hand e ls ≡ o →
      meaning file base (on_read file.classes o e c f fs ls d) q ≡ evaluated (k fs) d ls (E (Field e c f) ls)
  read_keeps None e c f fs ls h = refl
  read_keeps (Some v) e c f fs ls h = chosen file (k fs) d (nat_eq (reference_of v) 0) ls q _ _ _ _ refl refl ∙
      ap (λ x. evaluated (k fs) d ls (with_value x (λ w r. filled file d ls (InField c f) w r))) (at_hand_is e ls v h)

  -- an operand that begins
  started_keeps : (e : Expression) (fs : List Frame) (ls : List Value) →
      meaning file base (started file.classes e fs ls d) q ≡ evaluated (k fs) d ls (E e ls)
  started_keeps (Field e c f) fs ls = read_keeps (at_hand e ls) e c f fs ls refl
  started_keeps (Literal v) fs ls = refl
  started_keeps (Slot n) fs ls = refl
  started_keeps (Item a i) fs ls = refl
  started_keeps (Negate e) fs ls = refl
  started_keeps (Not e) fs ls = refl
  started_keeps (Binary op a b) fs ls = refl
  started_keeps (And a b) fs ls = refl
  started_keeps (Or a b) fs ls = refl
  started_keeps (Call e m es) fs ls = refl
  started_keeps (MakeObject c es) fs ls = refl
  started_keeps MakeLock fs ls = refl
  started_keeps (MakeMarkable c es) fs ls = refl
  started_keeps (MakeArray e) fs ls = refl

  -- an operand of an expression begins
  operand_keeps : (e : Expression) (f : Operand) (fs : List Frame) (ls : List Value) →
      meaning file base (started file.classes e (In f ∷ fs) ls d) q ≡ evaluated (k fs) d ls
      (with_value (E e ls) (λ v q. filled file d ls f v q))
  operand_keeps e f fs ls = started_keeps e (In f ∷ fs) ls ∙ in_frame file (k fs) d f ls (E e ls)

  -- the frame of an operand that is known gets its value at once
  at_once : (f : Operand) (e : Expression) (v : Value) (fs : List Frame) (ls : List Value) →
      known e ls ≡ Some v →
      evaluated (k fs) d ls (filled file d ls f v q) ≡ evaluated (k fs) d ls
      (with_value (E e ls) (λ w r. filled file d ls f w r))
  at_once f e v fs ls h = ap (λ x. evaluated (k fs) d ls (with_value x (λ w r. filled file d ls f w r)))
      (known_is e ls v h)

  right_keeps : (o : Option Value) (op : Operator) (x : Value) (b : Expression) (fs : List Frame) (ls : List Value) →
      known b ls ≡ o →
      meaning file base (on_right file.classes o op x b fs ls d) q ≡ evaluated (k fs) d ls (filled file d ls (InLeft
      op b) x q)
  right_keeps None op x b fs ls h = operand_keeps b (InRight op x) fs ls
  right_keeps (Some y) op x b fs ls h = chosen file (k fs) d (divides_by_zero op y) ls q _ _ _ _ refl refl ∙
      at_once (InRight op x) b y fs ls h

  left_keeps : (o : Option Value) (op : Operator) (a b : Expression) (fs : List Frame) (ls : List Value) →
      known a ls ≡ o →
      meaning file base (on_left file.classes o op a b fs ls d) q ≡ evaluated (k fs) d ls (E (Binary op a b) ls)
  left_keeps None op a b fs ls h = operand_keeps a (InLeft op b) fs ls
  left_keeps (Some x) op a b fs ls h = right_keeps (known b ls) op x b fs ls refl ∙ at_once (InLeft op b) a x fs ls h

  target_keeps : (o : Option Value) (e : Expression) (c f : ℕ) (fs : List Frame) (ls : List Value) →
      known e ls ≡ o →
      meaning file base (on_target file.classes o e c f fs ls d) q ≡ evaluated (k fs) d ls (E (Field e c f) ls)
  target_keeps None e c f fs ls h = operand_keeps e (InField c f) fs ls
  target_keeps (Some v) e c f fs ls h = chosen file (k fs) d (nat_eq (reference_of v) 0) ls q _ _ _ _ refl refl ∙
      at_once (InField c f) e v fs ls h

  calling_keeps : (m : Called) (o : Value) (vs : List Value) (fs : List Frame) (ls : List Value) →
      meaning file base (calling m o vs fs ls d) q ≡ evaluated (k fs) d ls (call (invoke file d) m o vs q)
  calling_keeps (OfMethod m) o vs fs ls = invoking_keeps file base d m (o ∷ vs) fs ls q
  calling_keeps LockIt o vs fs ls = refl
  calling_keeps UnlockIt o vs fs ls = refl
  calling_keeps TryIt o vs fs ls = refl
  calling_keeps AskIt o vs fs ls = refl
  calling_keeps (HoldMonitor c) o vs fs ls = refl
  calling_keeps (FreeMonitor c) o vs fs ls = refl
  calling_keeps (GetReference c) o vs fs ls = in_frame file (k fs) d InReference ls
      (ask (ReadPair (reference_of o)) (PairOf c) q)
  calling_keeps (IsMarked c) o vs fs ls = in_frame file (k fs) d InMark ls
      (ask (ReadPair (reference_of o)) (PairOf c) q)
  calling_keeps (GetBoth c) o vs fs ls = in_frame file (k fs) d (InBoth (reference_of (argument vs 0))) ls
      (ask (ReadPair (reference_of o)) (PairOf c) q)
  calling_keeps SetBoth o vs fs ls = refl
  calling_keeps CompareAndSet o vs fs ls = refl
  calling_keeps Attempt o vs fs ls = refl

  calling_or_null : (b : Bool) (m : Called) (o : Value) (vs : List Value) (fs : List Frame) (ls : List Value) →
      meaning file base (cond b (at (Ends (Threw NullPointer)) fs ls d) (calling m o vs fs ls d)) q ≡ evaluated (k fs) d
      ls (cond b (Throws NullPointer q) (call (invoke file d) m o vs q))
  calling_or_null true m o vs fs ls = refl
  calling_or_null false m o vs fs ls = calling_keeps m o vs fs ls

  pub applying_keeps : (p : Purpose) (vs : List Value) (fs : List Frame) (ls : List Value) →
      meaning file base (applying file.classes p vs fs ls d) q ≡ evaluated (k fs) d ls (applied file d p vs q)
  applying_keeps (ToCall m o) vs fs ls = calling_or_null (nat_eq (reference_of o) 0) m o vs fs ls
  applying_keeps (ToMake c o) vs fs ls =
      invoking_keeps file base d (constructor_of file.classes c) (o ∷ vs) (In (InConstructor o) ∷ fs) ls q
      ∙ in_frame file (k fs) d (InConstructor o) ls (invoke file d (constructor_of file.classes c) (o ∷ vs) q)
  applying_keeps (ToMark c) vs fs ls = refl

  -- the use of arguments, none of which is left
  none_keeps : (p : Purpose) (vs : List Value) (fs : List Frame) (ls : List Value) →
      meaning file base (applying file.classes p vs fs ls d) q ≡ evaluated (k fs) d ls (argued file d ls p vs End q)
  none_keeps p vs fs ls = applying_keeps p vs fs ls ∙ ap (λ l. evaluated (k fs) d ls (applied file d p l q))
      (sym (append-nil vs))

  ready_keeps : (es : Expressions) (p : Purpose) (vs : List Value) (fs : List Frame) (ls : List Value) →
      meaning file base (ready file.classes p vs es fs ls d) q ≡ evaluated (k fs) d ls (argued file d ls p vs es q)
  ready_keeps End p vs fs ls = none_keeps p vs fs ls
  ready_keeps (More e es) p vs fs ls = refl

  called_keeps : (o : Option Value) (e : Expression) (m : Called) (es : Expressions) (fs : List Frame) (ls : List Value)
      →
      known e ls ≡ o →
      meaning file base (on_called file.classes o e m es fs ls d) q ≡ evaluated (k fs) d ls (E (Call e m es) ls)
  called_keeps None e m es fs ls h = operand_keeps e (InTarget m es) fs ls
  called_keeps (Some v) e m es fs ls h = ready_keeps es (ToCall m v) [] fs ls ∙ at_once (InTarget m es) e v fs ls h

  pub evaluating_keeps : (e : Expression) (fs : List Frame) (ls : List Value) →
      meaning file base (evaluating file.classes e fs ls d) q ≡ evaluated (k fs) d ls (E e ls)
  evaluating_keeps (Literal v) fs ls = refl
  evaluating_keeps (Slot n) fs ls = refl
  evaluating_keeps (Field e c f) fs ls = target_keeps (known e ls) e c f fs ls refl
  evaluating_keeps (Item a i) fs ls = operand_keeps a (InItem i) fs ls
  evaluating_keeps (Negate e) fs ls = operand_keeps e InNegate fs ls
  evaluating_keeps (Not e) fs ls = operand_keeps e InNot fs ls
  evaluating_keeps (Binary op a b) fs ls = left_keeps (known a ls) op a b fs ls refl
  evaluating_keeps (And a b) fs ls = operand_keeps a (InAnd b) fs ls
  evaluating_keeps (Or a b) fs ls = operand_keeps a (InOr b) fs ls
  evaluating_keeps (Call e m es) fs ls = called_keeps (known e ls) e m es fs ls refl
  evaluating_keeps (MakeObject c es) fs ls = in_frame file (k fs) d (InMade c es) ls
      (ask (New c) (NewOf (types.Class c)) q)
  evaluating_keeps MakeLock fs ls = refl
  evaluating_keeps (MakeMarkable c es) fs ls = ready_keeps es (ToMark c) [] fs ls
  evaluating_keeps (MakeArray e) fs ls = operand_keeps e InLength fs ls

  argument_keeps : (o : Option Value) (e : Expression) (es : Expressions) (p : Purpose) (vs : List Value)
      (fs : List Frame) (ls : List Value) →
      known e ls ≡ o →
      meaning file base (on_argument file.classes o p vs e es fs ls d) q ≡ evaluated (k fs) d ls
      (argued file d ls p vs (More e es) q)
  argument_keeps None e es p vs fs ls h = started_keeps e (In (InArgument p vs es) ∷ fs) ls ∙
      argument_frame file (k fs) d p ls vs es (E e ls)
  argument_keeps (Some v) e es p vs fs ls h =
      one_more file (k fs) d p ls vs v (arguments file.classes (invoke file d) es ls q)
      ∙ ap (λ x. evaluated (k fs) d ls
      (with_value
      (with_value x (λ v q. with_value (arguments file.classes (invoke file d) es ls q)
      (λ vs q. Results (v ∷ vs) q))) (λ ws q. applied file d p (vs ++ ws) q))) (known_is e ls v h)

  pub arguing_keeps : (es : Expressions) (p : Purpose) (vs : List Value) (fs : List Frame) (ls : List Value) →
      meaning file base (arguing file.classes p vs es fs ls d) q ≡ evaluated (k fs) d ls (argued file d ls p vs es q)
  arguing_keeps End p vs fs ls = none_keeps p vs fs ls
  arguing_keeps (More e es) p vs fs ls = argument_keeps (known e ls) e es p vs fs ls refl

  pub filling_keeps : (f : Operand) (v : Value) (fs : List Frame) (ls : List Value) →
      meaning file base (filling file.classes f v fs ls d) q ≡ evaluated (k fs) d ls (filled file d ls f v q)
  filling_keeps (InField c f) v fs ls = chosen file (k fs) d (nat_eq (reference_of v) 0) ls q _ _ _ _ refl refl
  filling_keeps (InItem i) v fs ls = operand_keeps i (InIndex v) fs ls
  filling_keeps (InIndex o) v fs ls = chosen file (k fs) d (nat_eq (reference_of o) 0) ls q _ _ _ _ refl refl
  filling_keeps InNegate v fs ls = refl
  filling_keeps InNot v fs ls = refl
  filling_keeps InLength v fs ls = chosen file (k fs) d (int_lt (int_of v) (pos 0)) ls q _ _ _ _ refl refl
  filling_keeps (InLeft op b) v fs ls = right_keeps (known b ls) op v b fs ls refl
  filling_keeps (InRight op x) v fs ls = chosen file (k fs) d (divides_by_zero op v) ls q _ _ _ _ refl refl
  filling_keeps (InAnd b) v fs ls = chosen file (k fs) d (truth_of v) ls q _ _ _ _ refl refl
  filling_keeps (InOr b) v fs ls = chosen file (k fs) d (truth_of v) ls q _ _ _ _ refl refl
  filling_keeps (InTarget m es) v fs ls = ready_keeps es (ToCall m v) [] fs ls
  filling_keeps (InArgument p before es) v fs ls = refl
  filling_keeps (InMade c es) v fs ls = ready_keeps es (ToMake c v) [] fs ls
  filling_keeps (InConstructor o) v fs ls = refl
  filling_keeps InReference v fs ls = refl
  filling_keeps InMark v fs ls = refl
  filling_keeps (InBoth array) v fs ls = both_written file (k fs) d (nat_eq array 0)
      (WriteItem array (pos 0) (values.Boolean (mark_of v))) v ls q
  filling_keeps (InWritten pair) v fs ls = refl

  -- a last statement has nothing after it
  last_keeps : (x : Executed) → x ≡ then_do x (execute_all file.classes (invoke file d) Done)
  last_keeps (AsksFor a s) = refl
  last_keeps (Completes Normal ls q) = refl
  last_keeps (Completes (Broke n) ls q) = refl
  last_keeps (Completes (Continued n) ls q) = refl
  last_keeps (Completes (Returned v) ls q) = refl
  last_keeps (Completes (Threw kind) ls q) = refl

  pub running_keeps : (ss : Statements) (fs : List Frame) (ls : List Value) →
      meaning file base (running ss fs ls d) q ≡ executed (k fs) d (execute_all file.classes (invoke file d) ss ls q)
  running_keeps Done fs ls = refl
  running_keeps (Then s Done) fs ls = ap (executed (k fs) d) (last_keeps (X s ls))
  running_keeps (Then s (Then t ss)) fs ls = up_frame file (k fs) d (OfSequence (Then t ss)) (X s ls)

  -- a statement that begins
  pub entering_keeps : (s : Statement) (fs : List Frame) (ls : List Value) →
      meaning file base (entering s fs ls d) q ≡ executed (k fs) d (X s ls)
  entering_keeps (Block ss) fs ls = running_keeps ss fs ls
  entering_keeps (SetSlot n e) fs ls = refl
  entering_keeps (SetField e f v) fs ls = refl
  entering_keeps (AddField e f v) fs ls = refl
  entering_keeps (SetItem a i v) fs ls = refl
  entering_keeps (Evaluate e) fs ls = refl
  entering_keeps (If e a b) fs ls = refl
  entering_keeps (While e s) fs ls = refl
  entering_keeps (Break n) fs ls = refl
  entering_keeps (Continue n) fs ls = refl
  entering_keeps ReturnNothing fs ls = refl
  entering_keeps (ReturnValue e) fs ls = refl
  entering_keeps (Try b f) fs ls = refl

-- a loop's turn is asked for
turn_asked : (file : File) (base : Rest) (d : ℕ) (e : Expression) (s : Statement) (fs : List Frame) (ls : List Value)
    (q : Answers) →
    meaning file base (at (Turns e s) fs ls d) q ≡ executed (rest_of file base fs) d
    (after_body (Completes Normal ls q) (execute file.classes (invoke file d) (While e s)))
turn_asked file base d e s fs ls [] = refl
turn_asked file base d e s fs ls (a ∷ q) = refl

module _ (file : File) (base : Rest) (d : ℕ) (q : Answers) where
  normal_keeps : (c : Completion Value) (after : Control) (go : List Value → Answers → Executed) (fs : List Frame)
      (ls : List Value) →
      meaning file base (at after fs ls d) q ≡ executed (rest_of file base fs) d (go ls q) →
      meaning file base (at (if_normal c after) fs ls d) q ≡ executed (rest_of file base fs) d
      (then_do (Completes c ls q) go)
  normal_keeps Normal after go fs ls h = h
  normal_keeps (Broke n) after go fs ls h = refl
  normal_keeps (Continued n) after go fs ls h = refl
  normal_keeps (Returned v) after go fs ls h = refl
  normal_keeps (Threw kind) after go fs ls h = refl

  loop_keeps : (c : Completion Value) (e : Expression) (s : Statement) (fs : List Frame) (ls : List Value) →
      meaning file base (at (after_loop c e s) fs ls d) q ≡ executed (rest_of file base fs) d
      (after_body (Completes c ls q) (execute file.classes (invoke file d) (While e s)))
  loop_keeps Normal e s fs ls = turn_asked file base d e s fs ls q
  loop_keeps (Continued zero) e s fs ls = turn_asked file base d e s fs ls q
  loop_keeps (Continued (suc n)) e s fs ls = refl
  loop_keeps (Broke zero) e s fs ls = refl
  loop_keeps (Broke (suc n)) e s fs ls = refl
  loop_keeps (Returned v) e s fs ls = refl
  loop_keeps (Threw kind) e s fs ls = refl

  behind_keeps : (c : Completion Value) (ss : Statements) (fs : List Frame) (ls : List Value) →
      meaning file base (behind c ss fs ls d) q ≡ executed (rest_of file base fs) d
      (then_do (Completes c ls q) (execute_all file.classes (invoke file d) ss))
  behind_keeps Normal ss fs ls = running_keeps file base d q ss fs ls
  behind_keeps (Broke n) ss fs ls = refl
  behind_keeps (Continued n) ss fs ls = refl
  behind_keeps (Returned v) ss fs ls = refl
  behind_keeps (Threw kind) ss fs ls = refl

  closing_keeps : (f : Ending) (c : Completion Value) (fs : List Frame) (ls : List Value) →
      meaning file base (closing f c fs ls d) q ≡ executed (rest_of file base fs) d (closed file d f (Completes c ls q))
  closing_keeps (OfSequence ss) c fs ls = behind_keeps c ss fs ls
  closing_keeps (OfBody e s) c fs ls = loop_keeps c e s fs ls
  closing_keeps (OfTry f) c fs ls = up_frame file (rest_of file base fs) d (OfFinally c)
      (execute file.classes (invoke file d) f ls q)
  closing_keeps (OfFinally reason) c fs ls = normal_keeps c (Ends reason) (λ ls q. Completes reason ls q) fs ls refl

  leaving_keeps : (result : Option ValueType) (c : Completion Value) (fs : List Frame) (ls saved : List Value)
      (outer : ℕ) →
      meaning file base (at (leaving result c) fs saved outer) q ≡ evaluated (rest_of file base fs) outer saved
      (leave result (Completes c ls q))
  leaving_keeps result Normal fs ls saved outer = refl
  leaving_keeps result (Broke n) fs ls saved outer = refl
  leaving_keeps result (Continued n) fs ls saved outer = refl
  leaving_keeps result (Returned None) fs ls saved outer = refl
  leaving_keeps result (Returned (Some v)) fs ls saved outer = refl
  leaving_keeps result (Threw kind) fs ls saved outer = refl

  pub ending_keeps : (c : Completion Value) (fs : List Frame) (ls : List Value) →
      meaning file base (ending c fs ls d) q ≡ rest_of file base fs d ls (OfEnd c) q
  ending_keeps c [] ls = refl
  ending_keeps c (In f ∷ fs) ls = refl
  ending_keeps c (On f ∷ fs) ls = refl
  ending_keeps c (Up f ∷ fs) ls = closing_keeps f c fs ls
  ending_keeps c (Leaves result saved outer ∷ fs) ls = leaving_keeps result c fs ls saved outer
