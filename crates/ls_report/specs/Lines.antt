-- The lines of a history.
use Rattle.std.specs.Prelude.{ℕ, Bool, List, [], ◌∷◌, ◌++◌, Some, None, if◌then◌else◌, codes}
use Rattle.std.specs.Fmt.{decimal, signed_decimal}
use Rattle.std.specs.List.{flat_map}
use Rattle.ls_events.specs.declared.value.Value.{Value}
use Rattle.ls_events.specs.declared.value.Value.TheVariants as values
use Rattle.ls_events.specs.declared.kind.Kind.{Kind}
use Rattle.ls_events.specs.declared.kind.Kind.TheVariants as kinds
use Rattle.ls_report.specs.Events.{Event, Made, Occurrence, Called, Returned, Text, Trapped}

abbrev pub boolean_text : Bool → Text
boolean_text b = if b then codes "true" else codes "false"

-- a history shows ints and booleans; no event of a run has another value
abbrev pub value_text : Value → Text
value_text (values.Int n) = signed_decimal n
value_text (values.Boolean b) = boolean_text b
value_text other = []

-- the exception's class
abbrev pub kind_text : Kind → Text
kind_text kinds.Arithmetic = codes "ArithmeticException"
kind_text kinds.NullPointer = codes "NullPointerException"
kind_text kinds.ArrayIndexOutOfBounds = codes "ArrayIndexOutOfBoundsException"
kind_text kinds.NegativeArraySize = codes "NegativeArraySizeException"
kind_text kinds.IllegalMonitorState = codes "IllegalMonitorStateException"
kind_text kinds.StackOverflow = codes "StackOverflowError"
kind_text kinds.Error = codes "Error"

-- arguments, with a comma and a space before each
abbrev pub more_arguments : List Value → Text
more_arguments [] = []
more_arguments (v ∷ vs) = (codes ", " ++ value_text v) ++ more_arguments vs

abbrev pub arguments_text : List Value → Text
arguments_text [] = []
arguments_text (v ∷ vs) = value_text v ++ more_arguments vs

abbrev pub occurrence_text : Occurrence → Text
occurrence_text (Made object class arguments) =
    codes "call " ++ (object ++ (codes " = new " ++ (class ++ (40 ∷ (arguments_text arguments ++ 41 ∷ [])))))
occurrence_text (Called object method arguments) =
    codes "call " ++ (object ++ (46 ∷ (method ++ (40 ∷ (arguments_text arguments ++ 41 ∷ [])))))
occurrence_text (Returned None) = codes "return"
occurrence_text (Returned (Some value)) = codes "return " ++ value_text value
occurrence_text (Trapped kind) = codes "trap " ++ kind_text kind

-- a call by its text, as `A.1`
abbrev pub call_text : Text → ℕ → Text
call_text thread number = thread ++ (46 ∷ decimal number)

-- as `A.1 call s.add(3)`, without the line feed
abbrev pub event_text : Event → Text
event_text e = e.thread ++ (46 ∷ (decimal e.call ++ (32 ∷ occurrence_text e.occurrence)))

abbrev pub line : Event → Text
line e = event_text e ++ 10 ∷ []

-- a line for each event
abbrev pub history_text : List Event → Text
history_text = flat_map line
