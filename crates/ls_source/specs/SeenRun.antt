-- The state of a run, in the terms of the definitions.
use Rattle.std.specs.Prelude.{ℕ, List, [], ◌∷◌, Option, Some, None, map}
use Rattle.std.specs.declared.vec.Vec.{Vec}
use Rattle.std.specs.declared.alloc.Global.{Global}
use Rattle.ls_events.specs.declared.value.Value.{Value}
use Rattle.ls_events.specs.declared.action.Action.{Action}
use Rattle.ls_events.specs.declared.action.Answer.{Answer}
use Rattle.ls_events.specs.declared.event.Event.{Event}
use Rattle.ls_meaning.specs.declared.step.Did.{Did}
use Rattle.ls_meaning.specs.declared.step.Did.TheVariants as did
use Rattle.ls_meaning.specs.Course.{Answers}
use Rattle.ls_meaning.specs.Runs.{State, event_of}
use Rattle.ls_source.specs.declared.store_and_events.StoreAndEvents.{StoreAndEvents}
use Rattle.ls_source_store.specs.declared.thing.Effect.{Effect as StoreEffect}
use Rattle.ls_source_store.specs.declared.thing.Effect.TheVariants.{Waits as HasToWait, Does as HasDone}
use Rattle.ls_source_store.specs.SeenStore.{store_of}

-- the answers of each thread
abbrev pub lists_of : List (Vec (Answer Value) Global) → List Answers
lists_of answers = map (λ v. v.items) answers

-- a store, with answers that the threads may have had
abbrev pub state_of : StoreAndEvents → List Answers → State
state_of s had = record { store = store_of s.store; answers = had }

-- what a step did that performed an action, by what the action did
abbrev pub did_by : Action Value → StoreEffect → Did
did_by action HasToWait = did.Waits
did_by action (HasDone answer) = did.Acted action answer

-- the event of what a step of a thread did
abbrev pub listed : Option Event → List Event
listed None = []
listed (Some e) = e ∷ []

abbrev pub events_by : ℕ → Did → List Event
events_by thread (did.Acted action answer) = listed (event_of thread action)
events_by thread did.Waits = []
events_by thread did.Idle = []
