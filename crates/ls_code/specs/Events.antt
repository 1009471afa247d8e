-- The events of a run: calls, returns and traps.
use Rattle.std.specs.Prelude.{ℕ, ◌-◌, List, [], ◌∷◌, Option, Some, None, slice_get}
use Rattle.ls_code.specs.Words.{int_of, bool_of}
use Rattle.ls_code.specs.Code.{Code, Start}
use Rattle.ls_code.specs.declared.code.CallResult.{CallResult}
use Rattle.ls_code.specs.declared.code.CallResult.TheVariants as result
use Rattle.ls_code.specs.declared.step.Did.{Did}
use Rattle.ls_code.specs.declared.step.Did.TheVariants as did
use Rattle.ls_events.specs.declared.action.Action.{Action}
use Rattle.ls_events.specs.declared.action.Action.TheVariants as act
use Rattle.ls_events.specs.declared.event.Event.{Event}
use Rattle.ls_events.specs.declared.event.Happening.{Happening}
use Rattle.ls_events.specs.declared.event.Happening.TheVariants.{Called, Returned, Trapped}
use Rattle.ls_events.specs.declared.value.Value.{Value}
use Rattle.ls_events.specs.declared.value.Value.TheVariants as value

-- what a call of a thread answers
abbrev pub result_in : Option Start → ℕ → Option CallResult
result_in None call = None
result_in (Some s) call = slice_get s.calls (call - 1)

abbrev pub result_of : Code → ℕ → ℕ → Option CallResult
result_of p thread call = result_in (slice_get p.starts thread) call

-- the value of a call's word
abbrev pub value_read : Option CallResult → ℕ → Option Value
value_read (Some result.Int) word = Some (value.Int (int_of word))
value_read (Some result.Boolean) word = Some (value.Boolean (bool_of word))
value_read (Some result.Nothing) word = None
value_read None word = None

abbrev pub result_value : Option CallResult → Option ℕ → Option Value
result_value r None = None
result_value r (Some word) = value_read r word

abbrev pub event_of : ℕ → ℕ → Happening → Event
event_of thread call happening = record { thread = thread; call = call; happening = happening }

-- the events of an action
abbrev pub action_events : Code → ℕ → Action ℕ → List Event
action_events p thread (act.Call n) = event_of thread n Called ∷ []
action_events p thread (act.Return n word) = event_of thread n (Returned (result_value (result_of p thread n) word)) ∷
    []
action_events p thread (act.Trap n kind) = event_of thread n (Trapped kind) ∷ []
action_events p thread other = []

-- what a step adds to the history
abbrev pub events_of : Code → ℕ → Did → List Event
events_of p thread (did.Acted action answer) = action_events p thread action
events_of p thread other = []
