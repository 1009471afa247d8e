-- What a step of a thread is.
use Rattle.std.specs.Prelude.{ℕ, ◌-◌, Bool, true, false, Option, None, Some, nat_eq, if◌then◌else◌}
use Rattle.ls_events.specs.declared.value.Value.{Value}
use Rattle.ls_events.specs.declared.action.Action.{Action}
use Rattle.ls_events.specs.declared.action.Action.TheVariants.{Call, Return, Trap}
use Rattle.ls_meaning.specs.declared.step.Did.{Did}
use Rattle.ls_meaning.specs.declared.step.Did.TheVariants as did
use Rattle.ls_progress.specs.declared.sorts.Sort.{Sort}
use Rattle.ls_progress.specs.declared.sorts.Sort.TheVariants as sorts

abbrev pub sort_of_action : Action Value → Sort
sort_of_action (Call n) = sorts.Begins n
sort_of_action (Return n v) = sorts.Ends
sort_of_action (Trap n kind) = sorts.Ends
sort_of_action _ = sorts.Inside

-- a step that does nothing is of no sort
abbrev pub sort_of : Did → Option Sort
sort_of (did.Acted action answer) = Some (sort_of_action action)
sort_of did.Waits = Some sorts.Waits
sort_of did.Idle = None

-- what the mark of an edge says
abbrev pub sort_at : ℕ → Sort
sort_at mark =
    if nat_eq mark 0 then sorts.Waits
    else if nat_eq mark 1 then sorts.Inside
    else if nat_eq mark 2 then sorts.Ends
    else sorts.Begins (mark - 3)

-- no call begins or ends with the step
abbrev pub is_silent : Sort → Bool
is_silent sorts.Waits = true
is_silent sorts.Inside = true
is_silent sorts.Ends = false
is_silent (sorts.Begins call) = false

-- the call that is pending after a step of its thread
abbrev pub call_after : Sort → Option ℕ → Option ℕ
call_after sorts.Waits now = now
call_after sorts.Inside now = now
call_after sorts.Ends now = None
call_after (sorts.Begins call) now = Some call
