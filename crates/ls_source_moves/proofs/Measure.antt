-- A measure of pending work, which each move makes less. So after finitely many moves an answer is waited for, or the
-- work is done.
use Rattle.std.proofs.Common.{◌≡◌, ℕ, zero, suc, ◌+◌, ◌-◌, ◌<◌, ◌≤◌, Bool, true, false, cond, List, [], ◌∷◌, Option}
use Rattle.std.proofs.Common.{Some, None, arith}
use Rattle.std.specs.Prelude.{nat_eq, pos, int_lt, slice_get, slice_set}
use Rattle.ls_events.specs.declared.value.Value.{Value}
use Rattle.ls_events.specs.declared.value.ValueType.{ValueType}
use Rattle.ls_checked.specs.declared.tree.Operator.{Operator}
use Rattle.ls_checked.specs.declared.tree.Called.{Called}
use Rattle.ls_checked.specs.declared.tree.Called.TheVariants.{Method as OfMethod, LockIt, UnlockIt, TryIt, AskIt}
use Rattle.ls_checked.specs.declared.tree.Called.TheVariants.{HoldMonitor, FreeMonitor, GetReference, IsMarked}
use Rattle.ls_checked.specs.declared.tree.Called.TheVariants.{GetBoth, SetBoth, CompareAndSet, Attempt}
use Rattle.ls_checked.specs.CheckedTree.{Method, File, Expression, Literal, Slot, Field, Item, Negate, Not, Binary}
use Rattle.ls_checked.specs.CheckedTree.{And, Or, Call, MakeObject, MakeLock, MakeMarkable, MakeArray, Expressions}
use Rattle.ls_checked.specs.CheckedTree.{End, More, Statement, Block, SetSlot, SetField, AddField, SetItem, Evaluate}
use Rattle.ls_checked.specs.CheckedTree.{If, While, Break, Continue, ReturnNothing, ReturnValue, Try, Statements}
use Rattle.ls_checked.specs.CheckedTree.{Done, Then}
use Rattle.ls_meaning.specs.declared.completion.Completion.{Completion}
use Rattle.ls_meaning.specs.declared.completion.Completion.TheVariants.{Normal, Broke, Continued, Returned, Threw}
use Rattle.ls_meaning.specs.Methods.{frame}
use Rattle.ls_meaning.specs.Expressions.{constructor_of}
use Rattle.ls_meaning.specs.Values.{int_of, truth_of, reference_of, divides_by_zero}
use Rattle.ls_source_pending.specs.Pending.{Purpose, ToCall, ToMake, ToMark, Operand, InField, InItem, InIndex}
use Rattle.ls_source_pending.specs.Pending.{InNegate, InNot, InLength, InLeft, InRight, InAnd, InOr, InTarget}
use Rattle.ls_source_pending.specs.Pending.{InArgument, InMade, InConstructor, InReference, InMark, InBoth, InWritten}
use Rattle.ls_source_pending.specs.Pending.{Waiting, ToSlot, ToTarget, ToField, ToCounter, ToAddend, ToSum, ToArray}
use Rattle.ls_source_pending.specs.Pending.{ToIndex, ToItem, ToNothing, ToIf, ToTest, ToReturn, Ending, OfSequence}
use Rattle.ls_source_pending.specs.Pending.{OfBody, OfTry, OfFinally, Frame, In, On, Up, Leaves, Control, Evaluates}
use Rattle.ls_source_pending.specs.Pending.{Argues, Invokes, Opens, Executes, Loops, Gives, Ends, Asks, Enters, Turns}
use Rattle.ls_source_pending.specs.Pending.{State}
use Rattle.ls_source_pending.specs.ExpressionMoves.{at_hand, on_read, started, invoking, ready, known, on_argument}
use Rattle.ls_source_pending.specs.ExpressionMoves.{on_right, on_left, on_target, on_called, evaluating, arguing}
use Rattle.ls_source_pending.specs.ExpressionMoves.{calling, applying, filling}
use Rattle.ls_source_pending.specs.Moves.{entering, on_written, waited, going_further, behind, opening, going_on}
use Rattle.ls_source_pending.specs.Moves.{giving, executing, running, if_normal, after_loop, leaving, closing, ending}
use Rattle.ls_source_pending.specs.Moves.{move, moved, is_left}
use Rattle.ls_source_moves.proofs.Weights.{branch_less, weight, weight_all, heaviness, heaviness_all, operand_load}
use Rattle.ls_source_moves.proofs.Weights.{waiting_load}
use Rattle.ls_source_moves.proofs.Weights.{ending_load, frame_load, body_load, control_load, load, burden, two}
use Rattle.ls_source_moves.proofs.Weights.{some_statements, operand_loads, waiting_loads, ending_loads}

module _ (file : File) where
  by_test : (b : Bool) (c c2 : Control) (m l n : ℕ) →
      control_load file c ≤ m →
      control_load file c2 ≤ m →
      m + l < n →
      control_load file (cond b c c2) + l < n
  by_test true c c2 m l n h g k = omega arith
  by_test false c c2 m l n h g k = omega arith

  chosen_state : (b : Bool) (s t : State) (n : ℕ) → burden file s < n → burden file t < n → burden file (cond b s t) < n
  chosen_state true s t n h g = h
  chosen_state false s t n h g = g

  read_less : (o : Option Value) (e : Expression) (c f : ℕ) (fs : List Frame) (ls : List Value) (d : ℕ) →
      burden file (on_read file.classes o e c f fs ls d) ≤ weight e + 2 + load fs
  read_less None e c f fs ls d = omega arith
  read_less (Some v) e c f fs ls d = let r : burden file (on_read file.classes (Some v) e c f fs ls d) < weight e + 2 +
      load fs + 1 = by_test (nat_eq (reference_of v) 0) _ _ 1 (load fs) _ (omega arith) (omega arith) (omega arith) in
      omega arith

  -- an operand that begins
  started_less : (e : Expression) (fs : List Frame) (ls : List Value) (d : ℕ) →
      burden file (started file.classes e fs ls d) ≤ weight e + load fs
  started_less (Field e c f) fs ls d = read_less (at_hand e ls) e c f fs ls d
  started_less (Literal v) fs ls d = omega arith
  started_less (Slot n) fs ls d = omega arith
  started_less (Item a i) fs ls d = omega arith
  started_less (Negate e) fs ls d = omega arith
  started_less (Not e) fs ls d = omega arith
  started_less (Binary op a b) fs ls d = omega arith
  started_less (And a b) fs ls d = omega arith
  started_less (Or a b) fs ls d = omega arith
  started_less (Call e m es) fs ls d = omega arith
  started_less (MakeObject c es) fs ls d = omega arith
  started_less MakeLock fs ls d = omega arith
  started_less (MakeMarkable c es) fs ls d = omega arith
  started_less (MakeArray e) fs ls d = omega arith

  right_less : (o : Option Value) (op : Operator) (x : Value) (b : Expression) (fs : List Frame) (ls : List Value)
      (d : ℕ) →
      burden file (on_right file.classes o op x b fs ls d) < weight b + 2 + load fs
  right_less None op x b fs ls d =
      let r : burden file (started file.classes b (In (InRight op x) ∷ fs) ls d) ≤ weight b + (1 + load fs) =
      started_less b (In (InRight op x) ∷ fs) ls d in
      omega arith
  right_less (Some y) op x b fs ls d = by_test (divides_by_zero op y) _ _ 1 (load fs) _ (omega arith) (omega arith)
      (omega (arith, two b))

  left_less : (o : Option Value) (op : Operator) (a b : Expression) (fs : List Frame) (ls : List Value) (d : ℕ) →
      burden file (on_left file.classes o op a b fs ls d) < weight a + weight b + 2 + load fs
  left_less None op a b fs ls d =
      let r : burden file (started file.classes a (In (InLeft op b) ∷ fs) ls d) ≤ weight a + ((weight b + 1) + load
      fs) =
      started_less a (In (InLeft op b) ∷ fs) ls d in
      omega arith
  left_less (Some x) op a b fs ls d = let r : burden file (on_right file.classes (known b ls) op x b fs ls d) <
      weight b + 2 + load
      fs = right_less (known b ls) op x b fs ls d in omega (arith, two a)

  target_less : (o : Option Value) (e : Expression) (c f : ℕ) (fs : List Frame) (ls : List Value) (d : ℕ) →
      burden file (on_target file.classes o e c f fs ls d) < weight e + 2 + load fs
  target_less None e c f fs ls d =
      let r : burden file (started file.classes e (In (InField c f) ∷ fs) ls d) ≤ weight e + (1 + load fs) =
      started_less e (In (InField c f) ∷ fs) ls d in
      omega arith
  target_less (Some v) e c f fs ls d = by_test (nat_eq (reference_of v) 0) _ _ 1 (load fs) _ (omega arith) (omega arith)
      (omega (arith, two e))

  invoking_less : (m : ℕ) (vs : List Value) (fs : List Frame) (ls : List Value) (d : ℕ) →
      burden file (invoking m vs fs ls d) < 2 + load fs
  invoking_less m vs fs ls d = by_test (nat_eq d 0) _ _ 1 (load fs) _ (omega arith) (omega arith) (omega arith)

  calling_less : (m : Called) (o : Value) (vs : List Value) (fs : List Frame) (ls : List Value) (d : ℕ) →
      burden file (calling m o vs fs ls d) < 5 + load fs
  calling_less (OfMethod m) o vs fs ls d = let r : burden file (invoking m (o ∷ vs) fs ls d) < 2 + load fs =
      invoking_less m (o ∷ vs) fs ls d in omega arith
  calling_less LockIt o vs fs ls d = omega arith
  calling_less UnlockIt o vs fs ls d = omega arith
  calling_less TryIt o vs fs ls d = omega arith
  calling_less AskIt o vs fs ls d = omega arith
  calling_less (HoldMonitor c) o vs fs ls d = omega arith
  calling_less (FreeMonitor c) o vs fs ls d = omega arith
  calling_less (GetReference c) o vs fs ls d = omega arith
  calling_less (IsMarked c) o vs fs ls d = omega arith
  calling_less (GetBoth c) o vs fs ls d = omega arith
  calling_less SetBoth o vs fs ls d = omega arith
  calling_less CompareAndSet o vs fs ls d = omega arith
  calling_less Attempt o vs fs ls d = omega arith

  applying_less : (p : Purpose) (vs : List Value) (fs : List Frame) (ls : List Value) (d : ℕ) →
      burden file (applying file.classes p vs fs ls d) < 5 + load fs
  applying_less (ToCall m o) vs fs ls d = chosen_state (nat_eq (reference_of o) 0) _ _ (5 + load fs) (omega arith)
      (calling_less m o vs fs ls d)
  applying_less (ToMake c o) vs fs ls d =
      let r : burden file (invoking (constructor_of file.classes c) (o ∷ vs) (In (InConstructor o) ∷ fs) ls d) < 2 +
      (1 + load fs) = invoking_less (constructor_of file.classes c) (o ∷ vs) (In (InConstructor o) ∷ fs) ls d in
      omega arith
  applying_less (ToMark c) vs fs ls d = omega arith

  ready_less : (es : Expressions) (p : Purpose) (vs : List Value) (fs : List Frame) (ls : List Value) (d : ℕ) →
      burden file (ready file.classes p vs es fs ls d) < weight_all es + 2 + load fs
  ready_less End p vs fs ls d = let r : burden file (applying file.classes p vs fs ls d) < 5 + load fs = applying_less p
      vs fs ls d in omega arith
  ready_less (More e es) p vs fs ls d = omega arith

  called_less : (o : Option Value) (e : Expression) (m : Called) (es : Expressions) (fs : List Frame) (ls : List Value)
      (d : ℕ) →
      burden file (on_called file.classes o e m es fs ls d) < weight e + weight_all es + 2 + load fs
  called_less None e m es fs ls d =
      let r : burden file (started file.classes e (In (InTarget m es) ∷ fs) ls d) ≤ weight e + ((weight_all es + 1) +
      load fs) =
      started_less e (In (InTarget m es) ∷ fs) ls d in
      omega arith
  called_less (Some o) e m es fs ls d =
      let r : burden file (ready file.classes (ToCall m o) [] es fs ls d) < weight_all es + 2 + load fs =
      ready_less es (ToCall m o) [] fs ls d in
      omega (arith, two e)

  evaluating_less : (e : Expression) (fs : List Frame) (ls : List Value) (d : ℕ) →
      burden file (evaluating file.classes e fs ls d) < weight e + load fs
  evaluating_less (Literal v) fs ls d = omega arith
  evaluating_less (Slot n) fs ls d = omega arith
  evaluating_less (Field e c f) fs ls d = target_less (known e ls) e c f fs ls d
  evaluating_less (Item a b) fs ls d =
      let r : burden file (started file.classes a (In (InItem b) ∷ fs) ls d) ≤ weight a + ((weight b + 1) + load fs) =
      started_less a (In (InItem b) ∷ fs) ls d in
      omega arith
  evaluating_less (Negate e) fs ls d =
      let r : burden file (started file.classes e (In InNegate ∷ fs) ls d) ≤ weight e + (1 + load fs) =
      started_less e (In InNegate ∷ fs) ls d in
      omega arith
  evaluating_less (Not e) fs ls d =
      let r : burden file (started file.classes e (In InNot ∷ fs) ls d) ≤ weight e + (1 + load fs) =
      started_less e (In InNot ∷ fs) ls d in
      omega arith
  evaluating_less (Binary op a b) fs ls d = left_less (known a ls) op a b fs ls d
  evaluating_less (And a b) fs ls d =
      let r : burden file (started file.classes a (In (InAnd b) ∷ fs) ls d) ≤ weight a + ((weight b + 1) + load fs) =
      started_less a (In (InAnd b) ∷ fs) ls d in
      omega arith
  evaluating_less (Or a b) fs ls d =
      let r : burden file (started file.classes a (In (InOr b) ∷ fs) ls d) ≤ weight a + ((weight b + 1) + load fs) =
      started_less a (In (InOr b) ∷ fs) ls d in
      omega arith
  evaluating_less (Call e m es) fs ls d = called_less (known e ls) e m es fs ls d
  evaluating_less (MakeObject c es) fs ls d = omega arith
  evaluating_less MakeLock fs ls d = omega arith
  evaluating_less (MakeMarkable c es) fs ls d = ready_less es (ToMark c) [] fs ls d
  evaluating_less (MakeArray e) fs ls d =
      let r : burden file (started file.classes e (In InLength ∷ fs) ls d) ≤ weight e + (1 + load fs) =
      started_less e (In InLength ∷ fs) ls d in
      omega arith

  argument_less : (o : Option Value) (e : Expression) (es : Expressions) (p : Purpose) (vs : List Value)
      (fs : List Frame) (ls : List Value) (d : ℕ) →
      burden file (on_argument file.classes o p vs e es fs ls d) < weight_all (More e es) + 1 + load fs
  argument_less None e es p vs fs ls d =
      let r : burden file (started file.classes e (In (InArgument p vs es) ∷ fs) ls d) ≤ weight e + ((weight_all es +
      1) + load fs) =
      started_less e (In (InArgument p vs es) ∷ fs) ls d in
      omega arith
  argument_less (Some v) e es p vs fs ls d = omega (arith, two e)

  arguing_less : (es : Expressions) (p : Purpose) (vs : List Value) (fs : List Frame) (ls : List Value) (d : ℕ) →
      burden file (arguing file.classes p vs es fs ls d) < weight_all es + 1 + load fs
  arguing_less End p vs fs ls d = let r : burden file (applying file.classes p vs fs ls d) < 5 + load fs = applying_less
      p vs fs ls d in omega arith
  arguing_less (More e es) p vs fs ls d = argument_less (known e ls) e es p vs fs ls d

  filling_less : (f : Operand) (v : Value) (fs : List Frame) (ls : List Value) (d : ℕ) →
      burden file (filling file.classes f v fs ls d) < 1 + operand_load f + load fs
  filling_less (InField c f) v fs ls d = by_test (nat_eq (reference_of v) 0) _ _ 1 (load fs) _ (omega arith)
      (omega arith) (omega arith)
  filling_less (InItem i) v fs ls d =
      let r : burden file (started file.classes i (In (InIndex v) ∷ fs) ls d) ≤ weight i + (1 + load fs) =
      started_less i (In (InIndex v) ∷ fs) ls d in
      omega arith
  filling_less (InIndex o) v fs ls d = by_test (nat_eq (reference_of o) 0) _ _ 1 (load fs) _ (omega arith) (omega arith)
      (omega arith)
  filling_less InNegate v fs ls d = omega arith
  filling_less InNot v fs ls d = omega arith
  filling_less InLength v fs ls d = by_test (int_lt (int_of v) (pos 0)) _ _ 1 (load fs) _ (omega arith) (omega arith)
      (omega arith)
  filling_less (InLeft op b) v fs ls d = let r : burden file (on_right file.classes (known b ls) op v b fs ls d) <
      weight b + 2 +
      load fs = right_less (known b ls) op v b fs ls d in omega arith
  filling_less (InRight op x) v fs ls d = by_test (divides_by_zero op v) _ _ 1 (load fs) _ (omega arith) (omega arith)
      (omega arith)
  filling_less (InAnd b) v fs ls d = by_test (truth_of v) _ _ (weight b) (load fs) _ (omega arith)
      (omega (arith, two b)) (omega arith)
  filling_less (InOr b) v fs ls d = by_test (truth_of v) _ _ (weight b) (load fs) _ (omega (arith, two b)) (omega arith)
      (omega arith)
  filling_less (InTarget m es) v fs ls d =
      let r : burden file (ready file.classes (ToCall m v) [] es fs ls d) < weight_all es + 2 + load fs =
      ready_less es (ToCall m v) [] fs ls d in
      omega arith
  filling_less (InArgument p before es) v fs ls d = omega arith
  filling_less (InMade c es) v fs ls d =
      let r : burden file (ready file.classes (ToMake c v) [] es fs ls d) < weight_all es + 2 + load fs =
      ready_less es (ToMake c v) [] fs ls d in
      omega arith
  filling_less (InConstructor o) v fs ls d = omega arith
  filling_less InReference v fs ls d = omega arith
  filling_less InMark v fs ls d = omega arith
  filling_less (InBoth array) v fs ls d = by_test (nat_eq array 0) _ _ 1 (1 + load fs) _ (omega arith) (omega arith)
      (omega arith)
  filling_less (InWritten pair) v fs ls d = omega arith

  running_less : (ss : Statements) (fs : List Frame) (ls : List Value) (d : ℕ) →
      burden file (running ss fs ls d) < heaviness_all ss + load fs
  running_less Done fs ls d = omega arith
  running_less (Then s Done) fs ls d = omega arith
  running_less (Then s (Then t ss)) fs ls d = omega arith

  -- a statement that begins
  entering_less : (s : Statement) (fs : List Frame) (ls : List Value) (d : ℕ) →
      burden file (entering s fs ls d) ≤ heaviness s + load fs
  entering_less (Block ss) fs ls d = let r : burden file (running ss fs ls d) < heaviness_all ss + load fs =
      running_less ss fs ls d in omega arith
  entering_less (SetSlot n e) fs ls d = omega arith
  entering_less (SetField e f v) fs ls d = omega arith
  entering_less (AddField e f v) fs ls d = omega arith
  entering_less (SetItem a i v) fs ls d = omega arith
  entering_less (Evaluate e) fs ls d = omega arith
  entering_less (If e a b) fs ls d = omega arith
  entering_less (While e s) fs ls d = omega arith
  entering_less (Break n) fs ls d = omega arith
  entering_less (Continue n) fs ls d = omega arith
  entering_less ReturnNothing fs ls d = omega arith
  entering_less (ReturnValue e) fs ls d = omega arith
  entering_less (Try b f) fs ls d = omega arith

  behind_less : (c : Completion Value) (ss : Statements) (fs : List Frame) (ls : List Value) (d : ℕ) →
      burden file (behind c ss fs ls d) < 1 + heaviness_all ss + load fs
  behind_less Normal ss fs ls d = let r : burden file (running ss fs ls d) < heaviness_all ss + load fs = running_less
      ss fs ls d in omega arith
  behind_less (Broke n) ss fs ls d = omega (arith, some_statements ss)
  behind_less (Continued n) ss fs ls d = omega (arith, some_statements ss)
  behind_less (Returned v) ss fs ls d = omega (arith, some_statements ss)
  behind_less (Threw kind) ss fs ls d = omega (arith, some_statements ss)

  normal_less : (c : Completion Value) (after : Control) (n : ℕ) →
      1 ≤ n →
      control_load file after ≤ n →
      control_load file (if_normal c after) ≤ n
  normal_less Normal after n one h = h
  normal_less (Broke m) after n one h = omega arith
  normal_less (Continued m) after n one h = omega arith
  normal_less (Returned v) after n one h = omega arith
  normal_less (Threw kind) after n one h = omega arith

  loop_less : (c : Completion Value) (e : Expression) (s : Statement) → control_load file (after_loop c e s) ≤ 1
  loop_less Normal e s = omega arith
  loop_less (Continued zero) e s = omega arith
  loop_less (Continued (suc n)) e s = omega arith
  loop_less (Broke zero) e s = omega arith
  loop_less (Broke (suc n)) e s = omega arith
  loop_less (Returned v) e s = omega arith
  loop_less (Threw kind) e s = omega arith

  leaving_less : (result : Option ValueType) (c : Completion Value) → control_load file (leaving result c) ≤ 1
  leaving_less result Normal = omega arith
  leaving_less result (Broke n) = omega arith
  leaving_less result (Continued n) = omega arith
  leaving_less result (Returned None) = omega arith
  leaving_less result (Returned (Some v)) = omega arith
  leaving_less result (Threw kind) = omega arith

  closing_less : (f : Ending) (c : Completion Value) (fs : List Frame) (ls : List Value) (d : ℕ) →
      burden file (closing f c fs ls d) < 1 + ending_load f + load fs
  closing_less (OfSequence ss) c fs ls d = behind_less c ss fs ls d
  closing_less (OfBody e s) c fs ls d = omega (arith, loop_less c e s)
  closing_less (OfTry f) c fs ls d = omega arith
  closing_less (OfFinally reason) c fs ls d = omega (arith, normal_less c (Ends reason) 1 (omega arith) (omega arith))

  ending_less : (c : Completion Value) (f : Frame) (fs : List Frame) (ls : List Value) (d : ℕ) →
      burden file (ending c (f ∷ fs) ls d) < 1 + frame_load f + load fs
  ending_less c (In f) fs ls d = omega (arith, operand_loads f)
  ending_less c (On f) fs ls d = omega (arith, waiting_loads f)
  ending_less c (Up f) fs ls d = closing_less f c fs ls d
  ending_less c (Leaves result saved outer) fs ls d = omega (arith, leaving_less result c)

  -- a completion that goes to the innermost frame, if there is one
  ended_less : (c : Completion Value) (fs : List Frame) (ls : List Value) (d : ℕ) →
      burden file (ending c fs ls d) < 2 + load fs
  ended_less c [] ls d = omega arith
  ended_less c (f ∷ fs) ls d = let r : burden file (ending c (f ∷ fs) ls d) < 1 + frame_load f + load fs = ending_less c
      f fs ls d in omega arith

  going_less : (f : Waiting) (v : Value) (fs : List Frame) (ls : List Value) (d : ℕ) →
      burden file (going_on f v fs ls d) < 1 + waiting_load f + load fs
  going_less (ToSlot n) v fs ls d = ended_less Normal fs (slice_set ls n v) d
  going_less (ToTarget f e) v fs ls d = omega arith
  going_less (ToField o f) v fs ls d = by_test (nat_eq (reference_of o) 0) _ _ 1 (1 + load fs) _ (omega arith)
      (omega arith) (omega arith)
  going_less (ToCounter f e) v fs ls d = by_test (nat_eq (reference_of v) 0) _ _ 1 (weight e + 2 + load fs) _
      (omega arith) (omega arith) (omega arith)
  going_less (ToAddend o f e) v fs ls d = omega arith
  going_less (ToSum o f x) v fs ls d = by_test (nat_eq (reference_of o) 0) _ _ 1 (1 + load fs) _ (omega arith)
      (omega arith) (omega arith)
  going_less (ToArray i e) v fs ls d = omega arith
  going_less (ToIndex o e) v fs ls d = omega arith
  going_less (ToItem o n) v fs ls d = by_test (nat_eq (reference_of o) 0) _ _ 1 (1 + load fs) _ (omega arith)
      (omega arith) (omega arith)
  going_less ToNothing v fs ls d = ended_less Normal fs ls d
  going_less (ToIf a b) v fs ls d =
      let r : burden file (entering (cond (truth_of v) a b) fs ls d) ≤ heaviness (cond (truth_of v) a b) + load
      fs = entering_less (cond (truth_of v) a b) fs ls d in
      omega (arith, branch_less (truth_of v) a b)
  going_less (ToTest e s) v fs ls d =
      let r : burden file (ending Normal fs ls d) < 2 + load fs = ended_less Normal fs ls d in
      let b : burden file (entering s (Up (OfBody e s) ∷ fs) ls d) ≤ heaviness s + (1 + load fs) =
      entering_less s (Up (OfBody e s) ∷ fs) ls d in
      chosen_state (truth_of v) _ _ (1 + (heaviness s + 1) + load fs) (omega arith) (omega arith)
  going_less ToReturn v fs ls d = ended_less (Returned (Some v)) fs ls d

  waited_less : (o : Option Value) (f : Waiting) (e : Expression) (fs : List Frame) (ls : List Value) (d : ℕ) →
      burden file (waited file.classes o f e fs ls d) < weight e + waiting_load f + load fs + 1
  waited_less None f e fs ls d =
      let r : burden file (evaluating file.classes e (On f ∷ fs) ls d) < weight e + (waiting_load f + load fs) =
      evaluating_less e (On f ∷ fs) ls d in
      omega arith
  waited_less (Some v) f e fs ls d = let r : burden file (going_on f v fs ls d) < 1 + waiting_load f + load fs =
      going_less f v fs ls d in omega (arith, two e)

  further_less : (f : Waiting) (v : Value) (fs : List Frame) (ls : List Value) (d : ℕ) →
      burden file (going_further file.classes f v fs ls d) < 1 + waiting_load f + load fs
  further_less (ToSlot n) v fs ls d = going_less (ToSlot n) v fs ls d
  further_less (ToTarget f e) v fs ls d =
      let r : burden file (waited file.classes (known e ls) (ToField v f) e fs ls d) < weight e + 2 + load fs + 1 =
      waited_less (known e ls) (ToField v f) e fs ls d in
      omega arith
  further_less (ToField o f) v fs ls d = going_less (ToField o f) v fs ls d
  further_less (ToCounter f e) v fs ls d = going_less (ToCounter f e) v fs ls d
  further_less (ToAddend o f e) v fs ls d =
      let r : burden file (waited file.classes (known e ls) (ToSum o f v) e fs ls d) < weight e + 2 + load fs + 1 =
      waited_less (known e ls) (ToSum o f v) e fs ls d in
      omega arith
  further_less (ToSum o f x) v fs ls d = going_less (ToSum o f x) v fs ls d
  further_less (ToArray i e) v fs ls d =
      let r : burden file (waited file.classes (known i ls) (ToIndex v e) i fs ls d) < weight i + (weight e + 2) +
      load fs + 1 =
      waited_less (known i ls) (ToIndex v e) i fs ls d in
      omega arith
  further_less (ToIndex o e) v fs ls d =
      let r : burden file (waited file.classes (known e ls) (ToItem o v) e fs ls d) < weight e + 2 + load fs + 1 =
      waited_less (known e ls) (ToItem o v) e fs ls d in
      omega arith
  further_less (ToItem o n) v fs ls d = going_less (ToItem o n) v fs ls d
  further_less ToNothing v fs ls d = going_less ToNothing v fs ls d
  further_less (ToIf a b) v fs ls d = going_less (ToIf a b) v fs ls d
  further_less (ToTest e s) v fs ls d = going_less (ToTest e s) v fs ls d
  further_less ToReturn v fs ls d = going_less ToReturn v fs ls d

  written_less : (o : Option Value) (e : Expression) (f : ℕ) (v : Expression) (fs : List Frame) (ls : List Value)
      (d : ℕ) →
      burden file (on_written file.classes o e f v fs ls d) < weight e + weight v + 3 + load fs
  written_less None e f v fs ls d =
      let r : burden file (evaluating file.classes e (On (ToTarget f v) ∷ fs) ls d) < weight e + ((weight v + 2) +
      load fs) =
      evaluating_less e (On (ToTarget f v) ∷ fs) ls d in
      omega arith
  written_less (Some o) e f v fs ls d =
      let r : burden file (waited file.classes (known v ls) (ToField o f) v fs ls d) < weight v + 2 + load fs + 1 =
      waited_less (known v ls) (ToField o f) v fs ls d in
      omega (arith, two e)

  executing_less : (s : Statement) (fs : List Frame) (ls : List Value) (d : ℕ) →
      burden file (executing file.classes s fs ls d) < heaviness s + load fs
  executing_less (Block ss) fs ls d =
      let r : burden file (running ss fs ls d) < heaviness_all ss + load fs = running_less ss fs ls d in
      omega arith
  executing_less (SetSlot n e) fs ls d =
      let r : burden file (waited file.classes (known e ls) (ToSlot n) e fs ls d) < weight e + 1 + load fs + 1 =
      waited_less (known e ls) (ToSlot n) e fs ls d in
      omega arith
  executing_less (SetField e f v) fs ls d = written_less (known e ls) e f v fs ls d
  executing_less (AddField e f v) fs ls d =
      let r : burden file (waited file.classes (known e ls) (ToCounter f v) e fs ls d) < weight e + (weight v + 3) +
      load fs + 1 =
      waited_less (known e ls) (ToCounter f v) e fs ls d in
      omega arith
  executing_less (SetItem a i v) fs ls d =
      let r : burden file (waited file.classes (known a ls) (ToArray i v) a fs ls d) < weight a + (weight i + weight
      v + 2) + load fs + 1 =
      waited_less (known a ls) (ToArray i v) a fs ls d in
      omega arith
  executing_less (Evaluate e) fs ls d =
      let r : burden file (evaluating file.classes e (On ToNothing ∷ fs) ls d) < weight e + (1 + load fs) =
      evaluating_less e (On ToNothing ∷ fs) ls d in
      omega arith
  executing_less (If e a b) fs ls d =
      let r : burden file (waited file.classes (known e ls) (ToIf a b) e fs ls d) < weight e + (heaviness a +
      heaviness b) + load fs + 1 =
      waited_less (known e ls) (ToIf a b) e fs ls d in
      omega arith
  executing_less (While e s) fs ls d =
      let r : burden file (waited file.classes (known e ls) (ToTest e s) e fs ls d) < weight e + (heaviness s + 1) +
      load fs + 1 =
      waited_less (known e ls) (ToTest e s) e fs ls d in
      omega arith
  executing_less (Break n) fs ls d = ended_less (Broke n) fs ls d
  executing_less (Continue n) fs ls d = ended_less (Continued n) fs ls d
  executing_less ReturnNothing fs ls d = ended_less (Returned None) fs ls d
  executing_less (ReturnValue e) fs ls d =
      let r : burden file (waited file.classes (known e ls) ToReturn e fs ls d) < weight e + 1 + load fs + 1 =
      waited_less (known e ls) ToReturn e fs ls d in
      omega arith
  executing_less (Try b f) fs ls d =
      let r : burden file (entering b (Up (OfTry f) ∷ fs) ls d) ≤ heaviness b + (heaviness f + 1 + load fs) =
      entering_less b (Up (OfTry f) ∷ fs) ls d in
      omega arith

  giving_less : (v : Value) (f : Frame) (fs : List Frame) (ls : List Value) (d : ℕ) →
      burden file (giving file.classes v (f ∷ fs) ls d) < 1 + frame_load f + load fs
  giving_less v (In f) fs ls d = filling_less f v fs ls d
  giving_less v (On f) fs ls d = further_less f v fs ls d
  giving_less v (Up f) fs ls d = omega (arith, ending_loads f)
  giving_less v (Leaves result saved outer) fs ls d = omega arith

  opening_less : (m : Option Method) (vs : List Value) (fs : List Frame) (ls : List Value) (d : ℕ) →
      burden file (opening m vs fs ls d) < body_load m + load fs
  opening_less None vs fs ls d = omega arith
  opening_less (Some m) vs fs ls d =
      let r : burden file (entering m.body (Leaves m.result ls d ∷ fs) (frame m.slots vs) (d - 1)) ≤ heaviness m.body +
      (1 + load fs) = entering_less m.body (Leaves m.result ls d ∷ fs) (frame m.slots vs) (d - 1) in
      omega arith

  some_body : (m : Option Method) → 2 ≤ body_load m
  some_body None = omega arith
  some_body (Some m) = omega arith

  pub move_less : (c : Control) (fs : List Frame) (ls : List Value) (d : ℕ) →
      is_left c fs ≡ true →
      burden file (move file c fs ls d) < control_load file c + load fs
  move_less (Evaluates e) fs ls d h = evaluating_less e fs ls d
  move_less (Argues p vs es) fs ls d h = arguing_less es p vs fs ls d
  move_less (Invokes m vs) fs ls d h = invoking_less m vs fs ls d
  move_less (Opens m vs) fs ls d h = chosen_state (nat_eq d 0) _ _ _
      (omega (arith, some_body (slice_get file.methods m))) (opening_less (slice_get file.methods m) vs fs ls d)
  move_less (Executes s) fs ls d h = executing_less s fs ls d
  move_less (Loops e s) fs ls d h =
      let r : burden file (waited file.classes (known e ls) (ToTest e s) e fs ls d) < weight e + (heaviness s + 1) +
      load fs + 1 =
      waited_less (known e ls) (ToTest e s) e fs ls d in
      omega arith
  move_less (Gives v) [] ls d h = cc
  move_less (Gives v) (f ∷ fs) ls d h = let r : burden file (giving file.classes v (f ∷ fs) ls d) < 1 + frame_load f +
      load fs = giving_less v f fs ls d in omega arith
  move_less (Ends c) [] ls d h = cc
  move_less (Ends c) (f ∷ fs) ls d h = let r : burden file (ending c (f ∷ fs) ls d) < 1 + frame_load f + load fs =
      ending_less c f fs ls d in omega arith
  move_less (Asks a s) fs ls d h = cc
  move_less (Enters m vs) fs ls d h = cc
  move_less (Turns e s) fs ls d h = cc

  -- each move leaves less to do
  pub moved_less : (s : State) → is_left s.control s.frames ≡ true → burden file (moved file s) < burden file s
  moved_less s h = move_less s.control s.frames s.locals s.depth h
