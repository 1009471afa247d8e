-- What the bodies of a checked file's methods end with.
use Rattle.std.specs.Prelude.{ℕ, ◌≡◌, List, Option, Some, None, slice_get}
use Rattle.ls_events.specs.declared.value.Value.{Value}
use Rattle.ls_events.specs.declared.value.ValueType.{ValueType}
use Rattle.ls_checked.specs.CheckedTree.{Class, Method, File}
use Rattle.ls_meaning.specs.declared.completion.Completion.{Completion}
use Rattle.ls_meaning.specs.declared.completion.Completion.TheVariants.{Normal, Broke, Continued, Returned, Threw}
use Rattle.ls_meaning.specs.Course.{Answers, Evaluated, Asks, Results, Throws}
use Rattle.ls_meaning.specs.Expressions.{Calls}
use Rattle.ls_meaning.specs.Statements.{Executed, AsksFor, Completes, execute}
use Rattle.ls_meaning.specs.Methods.{leave}
use Rattle.ls_types_judgement.specs.Ends.{AlwaysEnds}

-- how the body of a method may complete: if the method answers a value, the body returns one or throws
abbrev pub FitsMethod : Option ValueType → Completion Value → Type 0
FitsMethod result Normal = result ≡ None
FitsMethod result (Broke n) = ⊥
FitsMethod result (Continued n) = ⊥
FitsMethod result (Returned None) = result ≡ None
FitsMethod result (Returned (Some v)) = (t : ValueType) × (result ≡ Some t)
FitsMethod result (Threw kind) = Unit {0}

-- No jump leaves a body. If a method answers a value, its body ends with a value or an exception (JLS 8.4.7).
abbrev pub BodiesFit : File → Type 0
BodiesFit file = (n : ℕ) (m : Method) → slice_get file.methods n ≡ Some m → AlwaysEnds (FitsMethod m.result) m.body

-- what a body's completion is to the caller; if the body leaves no value, it is `other`
abbrev pub leave_or : Value → Executed → Evaluated Value
leave_or other (AsksFor action sort) = Asks action sort
leave_or other (Completes Normal locals rest) = Results other rest
leave_or other (Completes (Broke n) locals rest) = Results other rest
leave_or other (Completes (Continued n) locals rest) = Results other rest
leave_or other (Completes (Returned None) locals rest) = Results other rest
leave_or other (Completes (Returned (Some v)) locals rest) = Results v rest
leave_or other (Completes (Threw kind) locals rest) = Throws kind rest

-- If a method answers a value, its call never uses the value for bodies that leave none: any other value would do.
abbrev pub NoneLeft : File → Type 0
NoneLeft file =
    (n : ℕ) (m : Method) (t : ValueType) → slice_get file.methods n ≡ Some m → m.result ≡ Some t
    → (other : Value) (classes : List Class) (calls : Calls) (locals : List Value) (answers : Answers)
    → leave m.result (execute classes calls m.body locals answers) ≡ leave_or other
    (execute classes calls m.body locals answers)
