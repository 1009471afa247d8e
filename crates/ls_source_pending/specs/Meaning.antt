-- The course that pending work means.
use Rattle.std.specs.Prelude.{ℕ, ◌-◌, pos, neg_ℤ, true, false, not, int_lt, nat_eq, List, [], ◌∷◌, ◌++◌, Some}
use Rattle.std.specs.Prelude.{slice_get, slice_set, if◌then◌else◌}
use Rattle.ls_events.specs.declared.value.Value.{Value}
use Rattle.ls_events.specs.declared.value.Value.TheVariants as values
use Rattle.ls_events.specs.declared.value.ValueType.TheVariants as types
use Rattle.ls_events.specs.declared.kind.Kind.TheVariants.{NegativeArraySize}
use Rattle.ls_events.specs.declared.action.Action.TheVariants.{ReadField, WriteField, ReadItem, WriteItem, NewMarkable}
use Rattle.ls_events.specs.declared.action.Action.TheVariants.{NewArray, Enter, Turn}
use Rattle.ls_checked.specs.declared.tree.Operator.TheVariants.{Add}
use Rattle.ls_checked.specs.CheckedTree.{File, Expressions, While}
use Rattle.ls_meaning.specs.declared.sort.Sort.TheVariants.{NoValue, ValueOf, NewOf}
use Rattle.ls_meaning.specs.declared.completion.Completion.{Completion}
use Rattle.ls_meaning.specs.declared.completion.Completion.TheVariants.{Normal, Returned, Threw}
use Rattle.ls_meaning.specs.Values.{int_of, truth_of, reference_of, mark_of, pair_of, nothing, wrapped}
use Rattle.ls_meaning.specs.Course.{Answers, Evaluated, Asks as EAsks, Results, Throws, ask, with_value, unless_null}
use Rattle.ls_meaning.specs.Course.{on_object}
use Rattle.ls_meaning.specs.Expressions.{evaluate, arguments, call, operate, argument, field_of, constructor_of}
use Rattle.ls_meaning.specs.Statements.{Executed, AsksFor, Completes, and_normal, then_do, finally_do, after_body}
use Rattle.ls_meaning.specs.Statements.{execute, execute_all}
use Rattle.ls_meaning.specs.Methods.{invoke, run_body, leave}
use Rattle.ls_meaning.specs.Threads.{Next, Goes}
use Rattle.ls_source_pending.specs.Pending.{Purpose, ToCall, ToMake, ToMark, Operand, InField, InItem, InIndex}
use Rattle.ls_source_pending.specs.Pending.{InNegate, InNot, InLength, InLeft, InRight, InAnd, InOr, InTarget}
use Rattle.ls_source_pending.specs.Pending.{InArgument, InMade, InConstructor, InReference, InMark, InBoth, InWritten}
use Rattle.ls_source_pending.specs.Pending.{Waiting, ToSlot, ToTarget, ToField, ToCounter, ToAddend, ToSum, ToArray}
use Rattle.ls_source_pending.specs.Pending.{ToIndex, ToItem, ToNothing, ToIf, ToTest, ToReturn, Ending, OfSequence}
use Rattle.ls_source_pending.specs.Pending.{OfBody, OfTry, OfFinally, Frame, In, On, Up, Leaves, Control, Evaluates}
use Rattle.ls_source_pending.specs.Pending.{Argues, Invokes, Opens, Executes, Loops, Gives, Ends, Asks, Enters, Turns}
use Rattle.ls_source_pending.specs.Pending.{State}

-- the outcome of a part, for the frame around it
pub data PartResult : Type 0 where
  OfValue : (v : Value) → PartResult
  OfEnd : (completion : Completion Value) → PartResult

-- what follows a part; it takes how many more calls may be entered, the locals, the outcome, and the answers that are
-- left
abbrev pub Rest : Type 0
Rest = ℕ → List Value → PartResult → Answers → Next

abbrev pub evaluated : Rest → ℕ → List Value → Evaluated Value → Next
evaluated k d ls (EAsks action sort) = Goes action sort
evaluated k d ls (Results v q) = k d ls (OfValue v) q
evaluated k d ls (Throws kind q) = k d ls (OfEnd (Threw kind)) q

abbrev pub executed : Rest → ℕ → Executed → Next
executed k d (AsksFor action sort) = Goes action sort
executed k d (Completes c ls q) = k d ls (OfEnd c) q

abbrev pub applied : File → ℕ → Purpose → List Value → Answers → Evaluated Value
applied file d (ToCall m o) vs q = unless_null (reference_of o) q (call (invoke file d) m o vs q)
applied file d (ToMake c o) vs q = with_value (invoke file d (constructor_of file.classes c) (o ∷ vs) q)
    (λ _ q. Results o q)
applied file d (ToMark c) vs q = ask (NewMarkable (pair_of (argument vs 0) (argument vs 1))) (NewOf (types.Markable c))
    q

abbrev pub argued : File → ℕ → List Value → Purpose → List Value → Expressions → Answers → Evaluated Value
argued file d ls p before es q =
    with_value (arguments file.classes (invoke file d) es ls q) (λ vs q. applied file d p (before ++ vs) q)

abbrev pub filled : File → ℕ → List Value → Operand → Value → Answers → Evaluated Value
filled file d ls (InField c f) v q = on_object v (ReadField (reference_of v) f) (field_of file.classes c f) q
filled file d ls (InItem i) v q =
    with_value (evaluate file.classes (invoke file d) i ls q)
    (λ n q. on_object v (ReadItem (reference_of v) (int_of n)) (ValueOf types.Boolean) q)
filled file d ls (InIndex o) v q = on_object o (ReadItem (reference_of o) (int_of v)) (ValueOf types.Boolean) q
filled file d ls InNegate v q = Results (wrapped (neg_ℤ (int_of v))) q
filled file d ls InNot v q = Results (values.Boolean (not (truth_of v))) q
filled file d ls InLength v q = if int_lt (int_of v) (pos 0) then Throws NegativeArraySize q else
    ask (NewArray (int_of v)) (NewOf types.BooleanArray) q
filled file d ls (InLeft op b) v q = with_value (evaluate file.classes (invoke file d) b ls q) (λ y q. operate op v y q)
filled file d ls (InRight op x) v q = operate op x v q
filled file d ls (InAnd b) v q = if truth_of v then evaluate file.classes (invoke file d) b ls q else
    Results (values.Boolean false) q
filled file d ls (InOr b) v q = if truth_of v then Results (values.Boolean true) q else
    evaluate file.classes (invoke file d) b ls q
filled file d ls (InTarget m es) v q = argued file d ls (ToCall m v) [] es q
filled file d ls (InArgument p before es) v q = argued file d ls p (before ++ v ∷ []) es q
filled file d ls (InMade c es) v q = argued file d ls (ToMake c v) [] es q
filled file d ls (InConstructor o) v q = Results o q
filled file d ls InReference v q = Results (values.Reference (reference_of v)) q
filled file d ls InMark v q = Results (values.Boolean (mark_of v)) q
filled file d ls (InBoth array) v q =
    unless_null array q (with_value (ask (WriteItem array (pos 0) (values.Boolean (mark_of v))) NoValue q)
    (λ _ q. Results (values.Reference (reference_of v)) q))
filled file d ls (InWritten pair) v q = Results (values.Reference (reference_of pair)) q

abbrev pub gone_on : File → ℕ → List Value → Waiting → Value → Answers → Executed
gone_on file d ls (ToSlot n) v q = Completes Normal (slice_set ls n v) q
gone_on file d ls (ToTarget f e) v q =
    and_normal (with_value (evaluate file.classes (invoke file d) e ls q)
    (λ w q. on_object v (WriteField (reference_of v) f w) NoValue q)) ls
gone_on file d ls (ToField o f) v q = and_normal (on_object o (WriteField (reference_of o) f v) NoValue q) ls
gone_on file d ls (ToCounter f e) v q =
    and_normal (
    with_value (on_object v (ReadField (reference_of v) f) (ValueOf types.Int) q)
    (λ x q. with_value (evaluate file.classes (invoke file d) e ls q) (λ y q.
    with_value (operate Add x y q) (λ w q. on_object v (WriteField (reference_of v) f w) NoValue q)))) ls
gone_on file d ls (ToAddend o f e) v q =
    and_normal (
    with_value (evaluate file.classes (invoke file d) e ls q) (λ y q.
    with_value (operate Add v y q) (λ w q. on_object o (WriteField (reference_of o) f w) NoValue q))) ls
gone_on file d ls (ToSum o f x) v q = and_normal (with_value (operate Add x v q)
    (λ w q. on_object o (WriteField (reference_of o) f w) NoValue q)) ls
gone_on file d ls (ToArray i e) v q =
    and_normal (with_value (evaluate file.classes (invoke file d) i ls q)
    (λ n q. with_value (evaluate file.classes (invoke file d) e ls q)
    (λ w q. on_object v (WriteItem (reference_of v) (int_of n) w) NoValue q))) ls
gone_on file d ls (ToIndex o e) v q =
    and_normal (with_value (evaluate file.classes (invoke file d) e ls q)
    (λ w q. on_object o (WriteItem (reference_of o) (int_of v) w) NoValue q)) ls
gone_on file d ls (ToItem o n) v q = and_normal (on_object o (WriteItem (reference_of o) (int_of n) v) NoValue q) ls
gone_on file d ls ToNothing v q = Completes Normal ls q
gone_on file d ls (ToIf a b) v q =
    if truth_of v then execute file.classes (invoke file d) a ls q else execute file.classes (invoke file d) b ls q
gone_on file d ls (ToTest e s) v q =
    if truth_of v then after_body (execute file.classes (invoke file d) s ls q)
    (execute file.classes (invoke file d) (While e s)) else Completes Normal ls q
gone_on file d ls ToReturn v q = Completes (Returned (Some v)) ls q

abbrev pub closed : File → ℕ → Ending → Executed → Executed
closed file d (OfSequence ss) x = then_do x (execute_all file.classes (invoke file d) ss)
closed file d (OfBody e s) x = after_body x (execute file.classes (invoke file d) (While e s))
closed file d (OfTry f) x = finally_do x (execute file.classes (invoke file d) f)
closed file d (OfFinally reason) x = then_do x (λ ls q. Completes reason ls q)

abbrev pub around : File → Frame → Rest → Rest
around file (In f) k d ls (OfValue v) q = evaluated k d ls (filled file d ls f v q)
around file (In f) k d ls (OfEnd c) q = k d ls (OfEnd c) q
around file (On f) k d ls (OfValue v) q = executed k d (gone_on file d ls f v q)
around file (On f) k d ls (OfEnd c) q = k d ls (OfEnd c) q
around file (Up f) k d ls (OfValue v) q = k d ls (OfValue v) q
around file (Up f) k d ls (OfEnd c) q = executed k d (closed file d f (Completes c ls q))
around file (Leaves result saved outer) k d ls (OfValue v) q = k d ls (OfValue v) q
around file (Leaves result saved outer) k d ls (OfEnd c) q = evaluated k outer saved (leave result (Completes c ls q))

-- the frames around a part, up to what follows them all
abbrev pub rest_of : File → Rest → List Frame → Rest
rest_of file base [] = base
rest_of file base (f ∷ fs) = around file f (rest_of file base fs)

abbrev pub done_now : File → Rest → Control → ℕ → List Value → Answers → Next
done_now file k (Evaluates e) d ls q = evaluated k d ls (evaluate file.classes (invoke file d) e ls q)
done_now file k (Argues p before es) d ls q = evaluated k d ls (argued file d ls p before es q)
done_now file k (Invokes m vs) d ls q = evaluated k d ls (invoke file d m vs q)
done_now file k (Opens m vs) d ls q =
    if nat_eq d 0 then k d ls (OfValue nothing) q else evaluated k d ls
    (run_body file (invoke file (d - 1)) (slice_get file.methods m) vs q)
done_now file k (Executes s) d ls q = executed k d (execute file.classes (invoke file d) s ls q)
done_now file k (Loops e s) d ls q = executed k d (execute file.classes (invoke file d) (While e s) ls q)
done_now file k (Gives v) d ls q = k d ls (OfValue v) q
done_now file k (Ends c) d ls q = k d ls (OfEnd c) q
done_now file k (Asks action sort) d ls q = evaluated k d ls (ask action sort q)
done_now file k (Enters m vs) d ls [] = Goes (Enter m) NoValue
done_now file k (Enters m vs) d ls (a ∷ q) = done_now file k (Opens m vs) d ls q
done_now file k (Turns e s) d ls [] = Goes Turn NoValue
done_now file k (Turns e s) d ls (a ∷ q) = executed k d (execute file.classes (invoke file d) (While e s) ls q)

-- what a thread with this pending work does next after these answers
abbrev pub meaning : File → Rest → State → Answers → Next
meaning file base s q = done_now file (rest_of file base s.frames) s.control s.depth s.locals q
