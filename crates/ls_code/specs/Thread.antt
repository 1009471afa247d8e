-- A thread of the machine.
use Rattle.std.specs.Prelude.{ℕ, List, Bool}
use Rattle.ls_code.specs.Frame.{Frame}
use Rattle.ls_code.specs.declared.step.Mode.{Mode}
use Rattle.ls_code.specs.declared.code.CallResult.{CallResult}

-- The innermost frame, the frames below it, and whether the thread goes on. What each of its calls answers, how many
-- calls have ended, and whether a call is pending. The last of all frames runs the calls. The frames above it are
-- depths 1 to 64.
pub record Thread : Type 0 where
  pub top : Frame
  pub below : List Frame
  pub mode : Mode
  pub calls : List CallResult
  pub ended : ℕ
  pub pending : Bool

abbrev pub with_top : Thread → Frame → Thread
with_top t f = record t { top = f }

abbrev pub with_frames : Thread → Frame → List Frame → Thread
with_frames t f below = record t { top = f; below = below }
