-- What a thread's functions say of its moves.
use Rattle.std.specs.Prelude.{◌≡◌}
use Rattle.ls_code.specs.Moves.{FrameMove, Next, Throws, Stuck}
use Rattle.ls_code.specs.Thread.{Thread, with_top}
use Rattle.ls_code.specs.Calls.{CallMove, Calls, CallThrows, CallStuck}
use Rattle.ls_machine_moves.specs.Flows.{frame_after}
use Rattle.ls_machine_threads.specs.Memory.{KeptThread, keeping_thread}
use Rattle.ls_machine_moves.specs.declared.flow.Quick.{Quick}
use Rattle.ls_machine_moves.specs.declared.flow.Quick.TheVariants as quick
use Rattle.ls_code.specs.declared.instruction.Instruction.{Instruction}
use Rattle.ls_code.specs.declared.instruction.Instruction.TheVariants as op
use Rattle.ls_machine_threads.specs.declared.flow.Acting.{Acting}
use Rattle.ls_machine_threads.specs.declared.flow.Acting.TheVariants as acting
use Rattle.ls_machine_threads.specs.declared.flow.Entered.{Entered}
use Rattle.ls_machine_threads.specs.declared.flow.Entered.TheVariants as came

-- a small answer of a thread's innermost frame
abbrev pub IsQuickThread : Quick → FrameMove → KeptThread → KeptThread → Type 0
IsQuickThread quick.Next move old new = (new ≡ keeping_thread old
    (with_top old.thread (frame_after old.thread.top move))) × (move ≡ Next (frame_after old.thread.top move))
IsQuickThread (quick.Throws kind) move old new = (new ≡ old) × (move ≡ Throws kind)
IsQuickThread quick.Stuck move old new = (new ≡ old) × (move ≡ Stuck)
IsQuickThread quick.Other move old new = new ≡ old

-- what becomes of a thread that enters a method
abbrev pub thread_after : Thread → CallMove → Thread
thread_after t (Calls s) = s
thread_after t (CallThrows kind) = t
thread_after t CallStuck = t

abbrev pub call_flow : CallMove → Entered
call_flow (Calls t) = came.Entered
call_flow (CallThrows kind) = came.Throws kind
call_flow CallStuck = came.Stuck

abbrev pub instruction_of : Acting → Instruction
instruction_of (acting.Turn x) = op.Turn x
instruction_of (acting.GetField x) = op.GetField x
instruction_of (acting.PutField x) = op.PutField x
instruction_of (acting.Enter x) = op.Enter x
instruction_of acting.Leave = op.Leave
instruction_of acting.LeaveWith = op.LeaveWith
instruction_of (acting.See x) = op.See x
instruction_of (acting.Take x) = op.Take x
instruction_of (acting.DropLock x) = op.DropLock x
