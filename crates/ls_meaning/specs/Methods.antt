-- Calls of methods and constructors.
use Rattle.std.specs.Prelude.{ℕ, zero, suc, List, ◌++◌, length, map, drop, Option, Some, None, slice_get}
use Rattle.ls_events.specs.declared.value.Value.{Value}
use Rattle.ls_events.specs.declared.value.ValueType.{ValueType}
use Rattle.ls_events.specs.declared.kind.Kind.TheVariants.{StackOverflow}
use Rattle.ls_events.specs.declared.action.Action.TheVariants.{Enter}
use Rattle.ls_meaning.specs.declared.completion.Completion.TheVariants.{Normal, Broke, Continued, Returned, Threw}
use Rattle.ls_checked.specs.CheckedTree.{Method, File}
use Rattle.ls_meaning.specs.Values.{nothing, start_of}
use Rattle.ls_meaning.specs.Course.{Answers, Evaluated, Asks, Results, Throws, tell, with_value}
use Rattle.ls_meaning.specs.Expressions.{Calls}
use Rattle.ls_meaning.specs.Statements.{Executed, AsksFor, Completes, execute}

-- The slots of a method when it is entered: `this` and the arguments, and each other local with its start value (JLS
-- 4.12.5, 15.12.4.5).
abbrev pub frame : List ValueType → List Value → List Value
frame types values = values ++ map start_of (drop (length values) types)

-- What a call answers if its body completes without a value. Of a void method that is nothing. Of any other it is the
-- start value of the answered type; its body never completes so (JLS 8.4.7).
abbrev pub answer_without : Option ValueType → Value
answer_without None = nothing
answer_without (Some t) = start_of t

-- what a body's completion is to the caller (JLS 14.17, 15.12.4.5); no jump leaves a body (JLS 14.15, 14.16)
abbrev pub leave : Option ValueType → Executed → Evaluated Value
leave result (AsksFor action sort) = Asks action sort
leave result (Completes Normal locals rest) = Results (answer_without result) rest
leave result (Completes (Broke n) locals rest) = Results (answer_without result) rest
leave result (Completes (Continued n) locals rest) = Results (answer_without result) rest
leave result (Completes (Returned None) locals rest) = Results (answer_without result) rest
leave result (Completes (Returned (Some v)) locals rest) = Results v rest
leave result (Completes (Threw kind) locals rest) = Throws kind rest

-- the body of a method
abbrev pub run_body : File → Calls → Option Method → List Value → Answers → Evaluated Value
run_body file calls None values answers = Results nothing answers
run_body file calls (Some m) values answers =
    leave m.result (execute file.classes calls m.body (frame m.slots values) answers)

-- entering is an action of its own
abbrev pub enter : File → Calls → Calls
enter file calls m values answers =
    with_value (tell (Enter m) answers) (λ _ rest. run_body file calls (slice_get file.methods m) values rest)

-- a call, if `depth` calls more may be entered, one in the other; at depth 0 it throws instead (JLS 15.12.4.5)
unfoldable pub invoke : File → ℕ → Calls
invoke file zero m values answers = Throws StackOverflow answers
invoke file (suc depth) m values answers = enter file (invoke file depth) m values answers

-- how many calls may be entered, one in the other
unfoldable pub depth_limit : ℕ
depth_limit = 64
