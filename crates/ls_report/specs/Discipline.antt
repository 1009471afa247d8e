-- Which lists of events are histories.
use Rattle.std.specs.Prelude.{◌==◌, ◌&&◌, ◌||◌, ◌+◌, ◌^◌, pos, negsuc, nat_lt, Bool, true, false, not, List, [], ◌∷◌}
use Rattle.std.specs.Prelude.{◌++◌, Option, Some, None, if◌then◌else◌, codes, find, reverse}
use Rattle.std.specs.List.{list_all}
use Rattle.std.specs.Str.{bytes_eq}
use Rattle.ls_events.specs.declared.value.Value.{Value}
use Rattle.ls_events.specs.declared.value.Value.TheVariants as values
use Rattle.ls_report.specs.Events.{Called, Event, Made, Occurrence, Returned, Text}
use Rattle.ls_lexer.specs.Names.{is_name}

-- ---- events that have a line

-- an int of 32 bits or a boolean
abbrev pub is_shown : Value → Bool
is_shown (values.Int (pos n)) = nat_lt n (2 ^ 31)
is_shown (values.Int (negsuc n)) = nat_lt n (2 ^ 31)
is_shown (values.Boolean b) = true
is_shown other = false

abbrev pub has_names : Occurrence → Bool
has_names (Made object class arguments) = is_name object && (is_name class && list_all is_shown arguments)
has_names (Called object method arguments) = is_name object && (is_name method && list_all is_shown arguments)
has_names (Returned (Some value)) = is_shown value
has_names other = true

-- `all` names every thread in a schedule, so it is no thread's name
abbrev pub is_well_formed : Event → Bool
is_well_formed e = is_name e.thread && (not (bytes_eq e.thread (codes "all")) && has_names e.occurrence)

-- ---- which event may come next

abbrev pub is_making : Occurrence → Bool
is_making (Made object class arguments) = true
is_making other = false

abbrev pub is_call : Occurrence → Bool
is_call (Made object class arguments) = true
is_call (Called object method arguments) = true
is_call other = false

abbrev pub is_return : Occurrence → Bool
is_return (Returned value) = true
is_return other = false

abbrev pub has_value : Occurrence → Bool
has_value (Returned (Some value)) = true
has_value other = false

abbrev pub last_of : Text → List Event → Option Event
last_of thread events = find (λ e. bytes_eq e.thread thread) (reverse events)

-- makings belong to the setup alone
abbrev pub is_placed : Event → Bool
is_placed e = not (is_making e.occurrence) || bytes_eq e.thread (codes "setup")

-- Whether e may come if d was the last event of its thread. A call may come at the start or after a return, if it has
-- the next number. A return or a trap may come of the open call. If that call is a making, its return has no value.
abbrev pub may_follow : Option Event → Event → Bool
may_follow None e = is_call e.occurrence && (e.call == 1 && is_placed e)
may_follow (Some d) e = if is_call e.occurrence
    then is_return d.occurrence && (e.call == d.call + 1 && is_placed e)
    else is_call d.occurrence && (e.call == d.call && not (is_making d.occurrence && has_value e.occurrence))

-- whether the event may come after those before it
abbrev pub is_next : List Event → Event → Bool
is_next front e = is_well_formed e && may_follow (last_of e.thread front) e

-- whether the events may come after those before them
abbrev pub continues : List Event → List Event → Bool
continues front [] = true
continues front (e ∷ es) = is_next front e && continues (front ++ e ∷ []) es

abbrev pub is_history : List Event → Bool
is_history = continues []
