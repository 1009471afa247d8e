-- What a frame's function says of its move.
use Rattle.std.specs.Prelude.{◌≡◌, ℕ, ◌<◌, ◌≤◌, [], length, Bool, true, false}
use Rattle.ls_code.specs.Code.{Code}
use Rattle.ls_code.specs.Events.{action_events}
use Rattle.ls_code.specs.Frame.{Frame}
use Rattle.ls_code.specs.Moves.{FrameMove, Next, Throws, Stuck, Asks, Beyond}
use Rattle.ls_code.specs.declared.instruction.Instruction.{Instruction}
use Rattle.ls_code.specs.declared.instruction.Instruction.TheVariants as op
use Rattle.ls_code.specs.declared.instruction.Resume.{Resume}
use Rattle.ls_code.specs.declared.instruction.Resume.TheVariants as then
use Rattle.ls_events.specs.declared.action.Action.{Action}
use Rattle.ls_machine_moves.specs.Frames.{Kept, keeping}
use Rattle.ls_machine_moves.specs.declared.flow.Quick.{Quick}
use Rattle.ls_machine_moves.specs.declared.flow.Quick.TheVariants as quick
use Rattle.ls_machine_moves.specs.declared.flow.Flow.{Flow}
use Rattle.ls_machine_moves.specs.declared.flow.Flow.TheVariants as flow

-- the instructions that only their own frame sees
abbrev pub is_silent : Instruction → Bool
is_silent (op.Push x) = true
is_silent (op.Load x) = true
is_silent (op.Store x) = true
is_silent op.Pop = true
is_silent op.Dup = true
is_silent op.Add = true
is_silent op.Sub = true
is_silent op.Mul = true
is_silent op.Div = true
is_silent op.Remainder = true
is_silent op.Neg = true
is_silent op.Lt = true
is_silent op.Le = true
is_silent op.Gt = true
is_silent op.Ge = true
is_silent op.Eq = true
is_silent op.Ne = true
is_silent op.Not = true
is_silent (op.Jump x) = true
is_silent (op.JumpIfFalse x) = true
is_silent (op.JumpIfTrue x) = true
is_silent op.ReferenceOf = true
is_silent op.MarkOf = true
is_silent op.Pack = true
is_silent op.Halt = false
is_silent (op.Turn x) = false
is_silent (op.GetField x) = false
is_silent (op.PutField x) = false
is_silent op.GetItem = false
is_silent op.PutItem = false
is_silent (op.GetName x) = false
is_silent (op.PutName x) = false
is_silent (op.NewObject x) = false
is_silent op.NewLock = false
is_silent op.NewMarkable = false
is_silent op.NewArray = false
is_silent op.Lock = false
is_silent op.Unlock = false
is_silent op.TryLock = false
is_silent op.IsHeld = false
is_silent (op.See x) = false
is_silent (op.Take x) = false
is_silent (op.DropLock x) = false
is_silent op.ReadPair = false
is_silent op.SetPair = false
is_silent op.SwapPair = false
is_silent op.AttemptMark = false
is_silent (op.Enter x) = false
is_silent op.Leave = false
is_silent op.LeaveWith = false
is_silent op.Throw = false
is_silent (op.Call x) = false
is_silent (op.Result x) = false
is_silent op.Trap = false

-- the frame after a move, before any answer
abbrev pub frame_after : Frame → FrameMove → Frame
frame_after f (Next g) = g
frame_after f (Throws kind) = f
frame_after f Stuck = f
frame_after f (Asks action resume) = f
frame_after f (Beyond instruction) = f

-- a small answer says what the move says, or leaves it to be asked again
abbrev pub IsQuick : Quick → FrameMove → Kept → Kept → Type 0
IsQuick quick.Next move old new = (new ≡ keeping old (frame_after old.frame move)) ×
    (move ≡ Next (frame_after old.frame move))
IsQuick (quick.Throws kind) move old new = (new ≡ old) × (move ≡ Throws kind)
IsQuick quick.Stuck move old new = (new ≡ old) × (move ≡ Stuck)
IsQuick quick.Other move old new = new ≡ old

-- it leaves no silent instruction
abbrev pub LeavesOthers : Instruction → Quick → Type 0
LeavesOthers i quick.Next = Unit {0}
LeavesOthers i (quick.Throws kind) = Unit {0}
LeavesOthers i quick.Stuck = Unit {0}
LeavesOthers i quick.Other = is_silent i ≡ false

-- the move of an instruction that isn't silent
abbrev pub IsFlow : Flow → FrameMove → Type 0
IsFlow (flow.Throws kind) move = move ≡ Throws kind
IsFlow flow.Stuck move = move ≡ Stuck
IsFlow (flow.Asks action resume) move = move ≡ Asks action resume
IsFlow (flow.Beyond instruction) move = move ≡ Beyond instruction

-- an action that is no event
abbrev pub IsQuiet : Action ℕ → Type 0
IsQuiet action = (p : Code) (thread : ℕ) → action_events p thread action ≡ []

-- the operands that the frame needs to go on are there
abbrev pub CanResume : Resume → Frame → Type 0
CanResume then.Push f = length f.operands < f.need
CanResume (then.Settle n) f = (0 < n) × (n ≤ length f.operands)
CanResume (then.Discard n) f = n ≤ length f.operands
CanResume (then.Lead x) f = Unit {0}

abbrev pub IsReady : Flow → Frame → Type 0
IsReady (flow.Asks action resume) f = CanResume resume f × IsQuiet action
IsReady (flow.Throws kind) f = Unit {0}
IsReady flow.Stuck f = Unit {0}
IsReady (flow.Beyond instruction) f = Unit {0}
