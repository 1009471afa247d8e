-- What the instructions do that concern more than one frame.
use Rattle.std.specs.Prelude.{ℕ, ◌+◌, ◌-◌, List, [], ◌∷◌, ◌++◌, take, drop, length, reverse, replicate, Option, Some}
use Rattle.std.specs.Prelude.{None, true, false, nat_lt, ◌==◌, if◌then◌else◌, slice_get}
use Rattle.ls_code.specs.Frame.{Frame, onward}
use Rattle.ls_code.specs.Thread.{Thread, with_frames}
use Rattle.ls_code.specs.Moves.{discarded, pushed}
use Rattle.ls_code.specs.declared.code.Method.{Method}
use Rattle.ls_code.specs.declared.step.Mode.TheVariants.{Ended, Trapped}
use Rattle.ls_events.specs.declared.kind.Kind.{Kind}
use Rattle.ls_events.specs.declared.kind.Kind.TheVariants.{NullPointer, StackOverflow}

-- leaving the frame; with a value
abbrev pub left_frame : Thread → List Frame → Option Thread
left_frame t [] = None
left_frame t (f ∷ below) = Some (with_frames t (onward f f.operands) below)

abbrev pub left_with : Thread → List Frame → ℕ → Option Thread
left_with t [] word = None
left_with t (f ∷ below) word = if nat_lt (length f.operands) f.need then Some (with_frames t (pushed f word) below) else
    None

-- a method's frame: its arguments, pushed in order, are its first locals, and the others are 0
abbrev pub locals_of : Method → List ℕ → List ℕ
locals_of m operands = reverse (take m.arguments operands) ++ replicate m.more 0

abbrev pub entered : Method → Frame → Frame
entered m f = record { counter = m.start; locals = locals_of m f.operands; operands = []; need = m.need }

-- the caller waits at its call, and has no longer the arguments
abbrev pub calling : Method → Frame → Frame
calling m f = record f { operands = drop m.arguments f.operands }

abbrev pub with_callee : Method → Thread → Thread
with_callee m t = with_frames t (entered m t.top) (calling m t.top ∷ t.below)

abbrev pub halted : Thread → Thread
halted t = record t { mode = Ended }

-- a call begins; a call ends with the frame as it then is; a call ends by a trap
abbrev pub call_begun : Thread → Thread
call_begun t = record t { top = onward t.top t.top.operands; pending = true }

abbrev pub call_ended : ℕ → Thread → Thread
call_ended popped t = record t { top = discarded t.top popped; ended = t.ended + 1; pending = false }

abbrev pub call_trapped : Thread → Thread
call_trapped t = record t { mode = Trapped; ended = t.ended + 1; pending = false }

-- entering a method: at null and at depth 64 it throws
pub data CallMove : Type 0 where
  Calls : (thread : Thread) → CallMove
  CallThrows : (kind : Kind) → CallMove
  CallStuck : CallMove

abbrev pub enter_move : Method → Thread → CallMove
enter_move m t =
    elim (slice_get t.top.operands (m.arguments - 1)) as (λ _. CallMove) [
      | None ↦ CallStuck
      | Some this ↦ if this == 0 then CallThrows NullPointer else
          (if nat_lt (length t.below) 64 then Calls (with_callee m t) else CallThrows StackOverflow)
    ]
