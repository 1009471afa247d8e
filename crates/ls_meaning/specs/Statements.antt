-- The execution of statements.
use Rattle.std.specs.Prelude.{ℕ, zero, suc, List, length, Some, None, slice_set, if◌then◌else◌}
use Rattle.ls_events.specs.declared.value.Value.{Value}
use Rattle.ls_events.specs.declared.action.Action.{Action}
use Rattle.ls_events.specs.declared.action.Action.TheVariants.{ReadField, WriteField, WriteItem, Turn}
use Rattle.ls_meaning.specs.declared.completion.Completion.{Completion}
use Rattle.ls_meaning.specs.declared.completion.Completion.TheVariants.{Normal, Broke, Continued, Returned, Threw}
use Rattle.ls_events.specs.declared.value.ValueType.TheVariants as types
use Rattle.ls_checked.specs.declared.tree.Operator.TheVariants.{Add}
use Rattle.ls_checked.specs.CheckedTree.{Class, Statement, Block, SetSlot, SetField, AddField, SetItem, Evaluate, If}
use Rattle.ls_checked.specs.CheckedTree.{While, Break, Continue, ReturnNothing, ReturnValue, Try, Statements, Done}
use Rattle.ls_checked.specs.CheckedTree.{Then}
use Rattle.ls_meaning.specs.declared.sort.Sort.{Sort}
use Rattle.ls_meaning.specs.declared.sort.Sort.TheVariants.{NoValue, ValueOf}
use Rattle.ls_meaning.specs.Values.{int_of, truth_of, reference_of}
use Rattle.ls_meaning.specs.Course.{Answers, Evaluated, Asks, Results, Throws, tell, with_value, on_object}
use Rattle.ls_meaning.specs.Expressions.{Calls, operate, evaluate}

-- the execution of a statement asks for an action, or it completes, with the locals and the answers that are left (JLS
-- 14.1)
pub data Executed : Type 0 where
  AsksFor : (action : Action Value) (answer : Sort) → Executed
  Completes : (completion : Completion Value) (locals : List Value) (rest : Answers) → Executed

-- goes on with the value of an expression; an exception completes the statement (JLS 14.1)
abbrev pub on_value : Evaluated Value → List Value → (Value → Answers → Executed) → Executed
on_value (Asks action sort) locals go = AsksFor action sort
on_value (Results v rest) locals go = go v rest
on_value (Throws kind rest) locals go = Completes (Threw kind) locals rest

-- completes normally once the expression does
abbrev pub and_normal : Evaluated Value → List Value → Executed
and_normal e locals = on_value e locals (λ _ rest. Completes Normal locals rest)

-- goes on if a statement completes normally
abbrev pub then_do : Executed → (List Value → Answers → Executed) → Executed
then_do (AsksFor action sort) go = AsksFor action sort
then_do (Completes Normal locals rest) go = go locals rest
then_do (Completes (Broke n) locals rest) go = Completes (Broke n) locals rest
then_do (Completes (Continued n) locals rest) go = Completes (Continued n) locals rest
then_do (Completes (Returned v) locals rest) go = Completes (Returned v) locals rest
then_do (Completes (Threw kind) locals rest) go = Completes (Threw kind) locals rest

-- The finally block. If it completes normally, the whole completes as the try block did. Else the whole completes as
-- the finally block did (JLS 14.20.2).
abbrev pub finish_as : Completion Value → Executed → Executed
finish_as reason f = then_do f (λ locals rest. Completes reason locals rest)

abbrev pub finally_do : Executed → (List Value → Answers → Executed) → Executed
finally_do (AsksFor action sort) go = AsksFor action sort
finally_do (Completes reason locals rest) go = finish_as reason (go locals rest)

-- back to the loop's condition, as an action of its own
abbrev pub turn_back : (List Value → Answers → Executed) → List Value → Answers → Executed
turn_back again locals answers = on_value (tell Turn answers) locals (λ _ rest. again locals rest)

-- after a loop's body (JLS 14.12.1, 14.15, 14.16)
abbrev pub after_body : Executed → (List Value → Answers → Executed) → Executed
after_body (AsksFor action sort) again = AsksFor action sort
after_body (Completes Normal locals rest) again = turn_back again locals rest
after_body (Completes (Continued zero) locals rest) again = turn_back again locals rest
after_body (Completes (Continued (suc n)) locals rest) again = Completes (Continued n) locals rest
after_body (Completes (Broke zero) locals rest) again = Completes Normal locals rest
after_body (Completes (Broke (suc n)) locals rest) again = Completes (Broke n) locals rest
after_body (Completes (Returned v) locals rest) again = Completes (Returned v) locals rest
after_body (Completes (Threw kind) locals rest) again = Completes (Threw kind) locals rest

-- the condition, and if it is true, the body (JLS 14.12)
abbrev pub one_turn : (List Value → Answers → Evaluated Value) →
    (List Value → Answers → Executed) →
    (List Value → Answers → Executed) →
    List Value →
    Answers →
    Executed
one_turn condition body again locals answers =
    on_value (condition locals answers) locals (λ v rest.
    if truth_of v then after_body (body locals rest) again else Completes Normal locals rest)

-- a loop; each turn takes an answer, so a loop makes no more turns than there are answers
abbrev pub turns : ℕ →
    (List Value → Answers → Evaluated Value) →
    (List Value → Answers → Executed) →
    List Value →
    Answers →
    Executed
turns zero condition body = one_turn condition body (λ locals rest. AsksFor Turn NoValue)
turns (suc n) condition body = one_turn condition body (turns n condition body)

abbrev mutual
  pub execute : List Class → Calls → Statement → List Value → Answers → Executed
  -- a block (JLS 14.2)
  execute classes calls (Block ss) locals answers = execute_all classes calls ss locals answers
  -- assignment to a local, a field, an element (JLS 15.26.1)
  execute classes calls (SetSlot n e) locals answers =
      on_value (evaluate classes calls e locals answers) locals (λ v rest.
      Completes Normal (slice_set locals n v) rest)
  execute classes calls (SetField e f e') locals answers =
      and_normal (
      with_value (evaluate classes calls e locals answers) (λ o rest.
      with_value (evaluate classes calls e' locals rest) (λ v rest.
      on_object o (WriteField (reference_of o) f v) NoValue rest))) locals
  -- `+=`, `++` and `--` on a field. The object comes once, then the test for null, the field, what is added to it, and
  -- the write (JLS 15.14.2, 15.14.3, 15.15.1, 15.15.2, 15.26.2).
  execute classes calls (AddField e f e') locals answers =
      and_normal (
      with_value (evaluate classes calls e locals answers) (λ o rest.
      with_value (on_object o (ReadField (reference_of o) f) (ValueOf types.Int) rest) (λ x rest.
      with_value (evaluate classes calls e' locals rest) (λ y rest.
      with_value (operate Add x y rest) (λ v rest.
      on_object o (WriteField (reference_of o) f v) NoValue rest))))) locals
  execute classes calls (SetItem a i e) locals answers =
      and_normal (
      with_value (evaluate classes calls a locals answers) (λ o rest.
      with_value (evaluate classes calls i locals rest) (λ n rest.
      with_value (evaluate classes calls e locals rest) (λ v rest.
      on_object o (WriteItem (reference_of o) (int_of n) v) NoValue rest)))) locals
  -- an expression statement (JLS 14.8)
  execute classes calls (Evaluate e) locals answers = and_normal (evaluate classes calls e locals answers) locals
  -- if (JLS 14.9)
  execute classes calls (If e a b) locals answers =
      on_value (evaluate classes calls e locals answers) locals (λ v rest.
      if truth_of v then execute classes calls a locals rest else execute classes calls b locals rest)
  -- while (JLS 14.12)
  execute classes calls (While e s) locals answers =
      turns (length answers) (evaluate classes calls e) (execute classes calls s) locals answers
  -- break, continue (JLS 14.15, 14.16)
  execute classes calls (Break n) locals answers = Completes (Broke n) locals answers
  execute classes calls (Continue n) locals answers = Completes (Continued n) locals answers
  -- return (JLS 14.17)
  execute classes calls ReturnNothing locals answers = Completes (Returned None) locals answers
  execute classes calls (ReturnValue e) locals answers =
      on_value (evaluate classes calls e locals answers) locals (λ v rest. Completes (Returned (Some v)) locals rest)
  -- try and finally (JLS 14.20.2)
  execute classes calls (Try b f) locals answers =
      finally_do (execute classes calls b locals answers) (execute classes calls f)

  -- one statement after another, as long as they complete normally (JLS 14.2)
  pub execute_all : List Class → Calls → Statements → List Value → Answers → Executed
  execute_all classes calls Done locals answers = Completes Normal locals answers
  execute_all classes calls (Then s ss) locals answers =
      then_do (execute classes calls s locals answers) (execute_all classes calls ss)
