-- Events as keys, by which histories are put in an order.
use Rattle.std.specs.Prelude.{Some, None}
use Rattle.ls_events.specs.declared.event.Event.{Event}
use Rattle.ls_events.specs.declared.event.Happening.{Happening}
use Rattle.ls_events.specs.declared.event.Happening.TheVariants as happening
use Rattle.ls_events.specs.declared.value.Value.TheVariants as value
use Rattle.ls_events.specs.declared.kind.Kind.{Kind}
use Rattle.ls_events.specs.declared.kind.Kind.TheVariants as kind
use Rattle.ls_batch.specs.declared.keys.HappeningKey.{HappeningKey}
use Rattle.ls_batch.specs.declared.keys.HappeningKey.TheVariants as outcome
use Rattle.ls_batch.specs.declared.keys.EventKey.{EventKey}

abbrev pub trap_key : Kind → HappeningKey
trap_key kind.Arithmetic = outcome.Arithmetic
trap_key kind.NullPointer = outcome.NullPointer
trap_key kind.ArrayIndexOutOfBounds = outcome.ArrayIndexOutOfBounds
trap_key kind.NegativeArraySize = outcome.NegativeArraySize
trap_key kind.IllegalMonitorState = outcome.IllegalMonitorState
trap_key kind.StackOverflow = outcome.StackOverflow
trap_key kind.Error = outcome.Error

-- each happening has an outcome of its own
abbrev pub happening_key : Happening → HappeningKey
happening_key happening.Called = outcome.Called
happening_key (happening.Returned None) = outcome.Returned
happening_key (happening.Returned (Some (value.Int n))) = outcome.Int n
happening_key (happening.Returned (Some (value.Boolean b))) = outcome.Boolean b
happening_key (happening.Returned (Some (value.Reference r))) = outcome.Reference r
happening_key (happening.Returned (Some (value.Pair r b))) = outcome.Pair r b
happening_key (happening.Trapped k) = trap_key k

abbrev pub event_key : Event → EventKey
event_key e = record { thread = e.thread; call = e.call; happening = happening_key e.happening }

-- what happened, back from its outcome
abbrev pub key_happening : HappeningKey → Happening
key_happening outcome.Called = happening.Called
key_happening outcome.Returned = happening.Returned None
key_happening (outcome.Int n) = happening.Returned (Some (value.Int n))
key_happening (outcome.Boolean b) = happening.Returned (Some (value.Boolean b))
key_happening (outcome.Reference r) = happening.Returned (Some (value.Reference r))
key_happening (outcome.Pair r b) = happening.Returned (Some (value.Pair r b))
key_happening outcome.Arithmetic = happening.Trapped kind.Arithmetic
key_happening outcome.NullPointer = happening.Trapped kind.NullPointer
key_happening outcome.ArrayIndexOutOfBounds = happening.Trapped kind.ArrayIndexOutOfBounds
key_happening outcome.NegativeArraySize = happening.Trapped kind.NegativeArraySize
key_happening outcome.IllegalMonitorState = happening.Trapped kind.IllegalMonitorState
key_happening outcome.StackOverflow = happening.Trapped kind.StackOverflow
key_happening outcome.Error = happening.Trapped kind.Error

abbrev pub key_event : EventKey → Event
key_event m = record { thread = m.thread; call = m.call; happening = key_happening m.happening }
