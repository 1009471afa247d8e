-- The set calls of a history.
use Rattle.std.specs.Prelude.{◌==◌, ◌&&◌, ◌||◌, ◌+◌, ℕ, ℤ, Bool, false, not, List, [], ◌∷◌, Option, Some, None, find}
use Rattle.std.specs.Prelude.{is_some, slice_get, option_map, option_and_then, if◌then◌else◌, codes}
use Rattle.std.specs.Option.{option_map_or}
use Rattle.std.specs.Str.{bytes_eq}
use Rattle.ls_events.specs.declared.value.Value.{Value}
use Rattle.ls_events.specs.declared.value.Value.TheVariants as values
use Rattle.ls_report.specs.Events.{Called, Event, Made, Occurrence, Returned, Text, Trapped}
use Rattle.ls_report.specs.Lines.{call_text}
use Rattle.ls_orders.specs.declared.calls.Operation.{Operation}
use Rattle.ls_orders.specs.declared.calls.Operation.TheVariants as operations
use Rattle.ls_orders.specs.declared.calls.End.{End}
use Rattle.ls_orders.specs.declared.calls.End.TheVariants as ends
use Rattle.ls_orders.specs.declared.calls.SetCall.{SetCall}

-- ---- which calls are set calls: add, remove and contains with one int

abbrev pub operation_of : Text → Option Operation
operation_of method = if bytes_eq method (codes "add") then Some operations.Add
    else (if bytes_eq method (codes "remove") then Some operations.Remove
    else (if bytes_eq method (codes "contains") then Some operations.Contains else None))

-- the item of a call with one int
abbrev pub only_int : List Value → Option ℤ
only_int (values.Int n ∷ []) = Some n
only_int other = None

abbrev pub Asked : Type 0
Asked = Operation × ℤ

abbrev pub asked_of : Occurrence → Option Asked
asked_of (Called object method arguments) =
    option_and_then (λ n. option_map (λ o. (o, n)) (operation_of method)) (only_int arguments)
asked_of other = None

abbrev pub object_of : Occurrence → Text
object_of (Made object class arguments) = object
object_of (Called object method arguments) = object
object_of other = []

abbrev pub name_of : Event → Text
name_of e = call_text e.thread e.call

-- ---- the calls of another kind

-- A method call that is no set call, a set call on another object, or a making after the first set call. `first` is
-- the object of the first set call, if there was one.
abbrev pub is_foreign : Option Text → Occurrence → Bool
is_foreign first (Made object class arguments) = is_some first
is_foreign first (Called object method arguments) =
    not (is_some (asked_of (Called object method arguments))) || option_map_or (λ f. not (bytes_eq f object)) first
    false
is_foreign first other = false

abbrev pub first_after : Option Text → Occurrence → Option Text
first_after (Some object) o = Some object
first_after None o = option_map (λ a. object_of o) (asked_of o)

abbrev pub foreign_from : Option Text → List Event → Option Event
foreign_from first [] = None
foreign_from first (e ∷ es) =
    if is_foreign first e.occurrence then Some e else foreign_from (first_after first e.occurrence) es

-- the first call of another kind, in order of call events
abbrev pub first_foreign : List Event → Option Event
first_foreign = foreign_from None

-- ---- how a call has ended

abbrev pub reply_of : Option Value → Option Bool
reply_of (Some (values.Boolean b)) = Some b
reply_of other = None

abbrev pub end_at : ℕ → Occurrence → End
end_at at (Returned value) = ends.Returned at (reply_of value)
end_at at (Trapped kind) = ends.Trapped at
end_at at other = ends.Pending

-- the next event of the same call; `at` is the place of the first event of the list
abbrev pub end_of : Text → ℕ → ℕ → List Event → End
end_of thread call at [] = ends.Pending
end_of thread call at (e ∷ es) = if bytes_eq e.thread thread && e.call == call
    then end_at at e.occurrence else end_of thread call (at + 1) es

abbrev pub with_asked : Option Asked → ℕ → End → List SetCall → List SetCall
with_asked None at end calls = calls
with_asked (Some asked) at end calls =
    record { called = at; operation = asked.0; item = asked.1; end = end } ∷ calls

abbrev pub calls_from : ℕ → List Event → List SetCall
calls_from at [] = []
calls_from at (e ∷ es) =
    with_asked (asked_of e.occurrence) at (end_of e.thread e.call (at + 1) es) (calls_from (at + 1) es)

-- in order of their call events
abbrev pub set_calls : List Event → List SetCall
set_calls = calls_from 0

-- ---- calls by their names

abbrev pub name_at : List Event → ℕ → Text
name_at events at = option_map_or name_of (slice_get events at) []

abbrev pub call_named : List Event → List SetCall → Text → Option SetCall
call_named events calls name = find (λ c. bytes_eq name (name_at events c.called)) calls
