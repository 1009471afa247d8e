-- What may be told of neighbouring steps in one line.
use Rattle.std.specs.Prelude.{Bool, true, false}
use Rattle.ls_events.specs.declared.value.Value.{Value}
use Rattle.ls_events.specs.declared.value.Value.TheVariants.{Boolean}
use Rattle.ls_events.specs.declared.action.Action.{Action}
use Rattle.ls_events.specs.declared.action.Action.TheVariants.{AttemptMark, Enter, IsHeld, ReadField, ReadItem}
use Rattle.ls_events.specs.declared.action.Action.TheVariants.{ReadName, ReadPair, SwapPair, TryLock, Turn}
use Rattle.ls_events.specs.declared.action.Answer.{Answer}
use Rattle.ls_events.specs.declared.action.Answer.TheVariants.{Fails, Gives}
use Rattle.ls_meaning.specs.declared.step.Did.{Did}
use Rattle.ls_meaning.specs.declared.step.Did.TheVariants.{Acted, Idle, Waits}
use Rattle.ls_trace.specs.declared.manner.Manner.{Manner}
use Rattle.ls_trace.specs.declared.manner.Manner.TheVariants as manners

-- an attempt that is answered `false` fails
abbrev pub attempt_manner : Answer Value → Manner
attempt_manner (Gives (Boolean false)) = manners.Attempt
attempt_manner _ = manners.Alone

-- an exception is told alone
abbrev pub look_manner : Answer Value → Manner
look_manner (Fails kind) = manners.Alone
look_manner _ = manners.Look

-- reads, questions, entered methods and turns of loops; attempts; and all that changes the store or is an event
abbrev pub action_manner : Action Value → Answer Value → Manner
action_manner (ReadField o field) answer = look_manner answer
action_manner (ReadItem array index) answer = look_manner answer
action_manner (ReadName n) answer = look_manner answer
action_manner (ReadPair o) answer = look_manner answer
action_manner (IsHeld o) answer = look_manner answer
action_manner Turn answer = look_manner answer
action_manner (Enter m) answer = look_manner answer
action_manner (TryLock o) answer = attempt_manner answer
action_manner (SwapPair o expected new) answer = attempt_manner answer
action_manner (AttemptMark o reference mark) answer = attempt_manner answer
action_manner _ answer = manners.Alone

abbrev pub manner_of : Did → Manner
manner_of (Acted action answer) = action_manner action answer
manner_of Waits = manners.Wait
manner_of Idle = manners.Rest

-- two steps of one thread are one line if both are of one manner that isn't told alone
abbrev pub same_manner : Manner → Manner → Bool
same_manner manners.Look manners.Look = true
same_manner manners.Attempt manners.Attempt = true
same_manner manners.Wait manners.Wait = true
same_manner manners.Rest manners.Rest = true
same_manner _ _ = false
