-- Moves of a thread: whether they act, and which event they have.
use Rattle.std.specs.Prelude.{◌≡◌, ℕ, Bool, true, false, List, []}
use Rattle.ls_events.specs.declared.event.Event.{Event}
use Rattle.ls_meaning.specs.Runs.{event_of}
use Rattle.ls_search_laws.specs.Stepping.{events_in}
use Rattle.ls_transitions.specs.declared.moves.Move.{Move}
use Rattle.ls_transitions.specs.declared.moves.Move.TheVariants as moves

-- a move that doesn't act
abbrev pub IsStillMove : Move → Type 0
IsStillMove moves.Ended = Unit {0}
IsStillMove moves.Trapped = Unit {0}
IsStillMove moves.Waits = Unit {0}
IsStillMove (moves.Acts step) = ⊥

-- the events that a move of a thread has: one or none
abbrev pub events_by : ℕ → Move → List Event
events_by u moves.Ended = []
events_by u moves.Trapped = []
events_by u moves.Waits = []
events_by u (moves.Acts step) = events_in (event_of u step.action)

-- whether there are any
abbrev pub AreAny : Bool → List Event → Type 0
AreAny true events = events ≡ [] → ⊥
AreAny false events = events ≡ []
