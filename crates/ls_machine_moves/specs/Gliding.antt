-- Many silent moves of one frame.
use Rattle.std.specs.Prelude.{ℕ, zero, suc, List, Option, Some, None, slice_get}
use Rattle.ls_code.specs.Frame.{Frame}
use Rattle.ls_code.specs.Moves.{FrameMove, Next, Throws, Stuck, Asks, Beyond, frame_move}
use Rattle.ls_code.specs.declared.instruction.Instruction.{Instruction}

-- the frame that a move in silence goes on to
abbrev pub next_of : FrameMove → Option Frame
next_of (Next f) = Some f
next_of (Throws kind) = None
next_of Stuck = None
next_of (Asks action resume) = None
next_of (Beyond instruction) = None

-- the frame after one silent move, and after so many; none if one of them isn't silent, throws or is stuck
abbrev pub moved_by : Frame → Option Instruction → Option Frame
moved_by f None = None
moved_by f (Some i) = next_of (frame_move i f)

abbrev pub moved : List Instruction → Option Frame → Option Frame
moved instructions None = None
moved instructions (Some f) = moved_by f (slice_get instructions f.counter)

abbrev pub glided : List Instruction → ℕ → Frame → Option Frame
glided instructions zero f = Some f
glided instructions (suc count) f = moved instructions (glided instructions count f)
