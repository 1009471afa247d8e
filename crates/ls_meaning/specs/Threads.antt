-- What a thread of a program does next.
use Rattle.std.specs.Prelude.{ℕ, ◌+◌, List, [], ◌∷◌, Option, Some, None, slice_get}
use Rattle.ls_events.specs.declared.value.Value.{Value}
use Rattle.ls_events.specs.declared.action.Action.{Action}
use Rattle.ls_events.specs.declared.action.Action.TheVariants.{ReadName, WriteName, New, Call, Return, Trap}
use Rattle.ls_events.specs.declared.value.ValueType.{ValueType}
use Rattle.ls_checked.specs.CheckedTree.{Method, File}
use Rattle.ls_checked.specs.CheckedProgram.{Program, SetupName, ThreadProgram, ProgramCall, Making, Calling}
use Rattle.ls_events.specs.declared.value.ValueType.TheVariants.{Class}
use Rattle.ls_meaning.specs.declared.sort.Sort.{Sort}
use Rattle.ls_meaning.specs.declared.sort.Sort.TheVariants.{NoValue, ValueOf, NewOf}
use Rattle.ls_meaning.specs.Values.{reference_of}
use Rattle.ls_meaning.specs.Course.{Answers, Evaluated, Asks, Results, Throws, ask, tell, with_value, unless_null}
use Rattle.ls_meaning.specs.Expressions.{constructor_of}
use Rattle.ls_meaning.specs.Methods.{invoke, depth_limit}

-- a thread asks for an action, or it has ended, by its last return or by a trap
pub data Next : Type 0 where
  Goes : (action : Action Value) (answer : Sort) → Next
  Ended : Next
  Trapped : Next

-- the value of the return event, if the method answers one
abbrev pub result_by : Option ValueType → Value → Option Value
result_by None v = None
result_by (Some t) v = Some v

abbrev pub result_in : Option Method → Value → Option Value
result_in None v = None
result_in (Some m) v = result_by m.result v

abbrev pub result_of : File → ℕ → Value → Option Value
result_of file m v = result_in (slice_get file.methods m) v

-- the class of a setup name's object
abbrev pub class_in : Option SetupName → ℕ
class_in None = 0
class_in (Some n) = n.class

abbrev pub named : Program → ℕ → Sort
named program n = ValueOf (Class (class_in (slice_get program.names n)))

-- One call, up to its return or trap event. A making: call event, making, entering, the body, write of the setup name.
-- A method call: call event, read of the setup name, entering, the body.
abbrev pub one_call : File → Program → ℕ → ProgramCall → Answers → Evaluated (Option Value)
one_call file program n (Making name c text values) answers =
    with_value (tell (Call n) answers) (λ _ rest.
    with_value (ask (New c) (NewOf (Class c)) rest) (λ o rest.
    with_value (invoke file depth_limit (constructor_of file.classes c) (o ∷ values) rest) (λ _ rest.
    with_value (tell (WriteName name o) rest) (λ _ rest. Results None rest))))
one_call file program n (Calling name m text result values) answers =
    with_value (tell (Call n) answers) (λ _ rest.
    with_value (ask (ReadName name) (named program name) rest) (λ o rest.
    unless_null (reference_of o) rest (
    with_value (invoke file depth_limit m (o ∷ values) rest) (λ v rest. Results (result_of file m v) rest))))

-- an event, which is always done, and what comes after it
abbrev pub event : Action Value → Answers → (Answers → Next) → Next
event action [] go = Goes action NoValue
event action (answer ∷ rest) go = go rest

-- after a call comes its return event, and then the next call; or a trap event, which ends the thread
abbrev pub after_call : ℕ → Evaluated (Option Value) → (Answers → Next) → Next
after_call n (Asks action sort) go = Goes action sort
after_call n (Results v rest) go = event (Return n v) rest go
after_call n (Throws kind rest) go = event (Trap n kind) rest (λ rest. Trapped)

-- calls are numbered from 1
abbrev pub all_calls : File → Program → ℕ → List ProgramCall → Answers → Next
all_calls file program n [] answers = Ended
all_calls file program n (c ∷ cs) answers = after_call n (one_call file program n c answers)
    (all_calls file program (n + 1) cs)

abbrev pub calls_in : Option ThreadProgram → List ProgramCall
calls_in None = []
calls_in (Some t) = t.calls

-- what a thread does next after these answers
abbrev pub next : File → Program → ℕ → Answers → Next
next file program thread answers = all_calls file program 1 (calls_in (slice_get program.threads thread)) answers
