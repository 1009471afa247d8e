-- The table of instructions, a step of one thread for each case: frames, throws, and the calls of a thread.
use Rattle.std.specs.Prelude.{◌≡◌, ℕ, List, [], ◌∷◌, replicate, Bool, true, false, Some, None, negsuc}
use Rattle.ls_code.specs.Frame.{Frame}
use Rattle.ls_code.specs.Thread.{Thread}
use Rattle.ls_code.specs.Machine.{Machine, machine_step}
use Rattle.ls_code.specs.declared.code.CallResult.{CallResult}
use Rattle.ls_code.specs.declared.code.CallResult.TheVariants as results
use Rattle.ls_code.specs.declared.step.Did.{Did}
use Rattle.ls_code.specs.declared.step.Did.TheVariants as did
use Rattle.ls_code.specs.declared.step.Mode.{Mode}
use Rattle.ls_code.specs.declared.step.Mode.TheVariants as mode
use Rattle.ls_code.specs.declared.instruction.Instruction.{Instruction}
use Rattle.ls_code.specs.declared.instruction.Instruction.TheVariants as op
use Rattle.ls_events.specs.declared.action.Action.TheVariants as act
use Rattle.ls_events.specs.declared.action.Answer.TheVariants.{Done}
use Rattle.ls_events.specs.declared.event.Event.{Event}
use Rattle.ls_events.specs.declared.event.Happening.{Happening}
use Rattle.ls_events.specs.declared.event.Happening.TheVariants.{Called, Returned, Trapped}
use Rattle.ls_events.specs.declared.kind.Kind.TheVariants as kinds
use Rattle.ls_events.specs.declared.value.Value.TheVariants as values

-- a frame with room for three operands
abbrev pub frame : ℕ → List ℕ → List ℕ → Frame
frame counter locals operands = record { counter = counter; locals = locals; operands = operands; need = 3 }

-- a thread that is in its one call
abbrev pub within : Frame → List Frame → Thread
within top below =
    record { top = top; below = below; mode = mode.Running; calls = results.Int ∷ []; ended = 0; pending = true }

-- a thread's only frame, with calls of these results; how many calls have ended, whether one is pending, whether the
-- thread goes on
abbrev pub alone : ℕ → List ℕ → List CallResult → ℕ → Bool → Mode → Thread
alone counter operands calls ended pending goes =
    record { top = frame counter [] operands; below = []; mode = goes; calls = calls; ended = ended; pending = pending }

-- The instruction at place 0; a throw at place 1 leads to place 20, with one operand kept. Method 0 has two arguments
-- and one more local. The setup has ended.
abbrev pub machine : Instruction → Thread → List Event → Machine
machine i t history = record {
  code = record {
    instructions = i ∷ [];
    handlers = record { from = 1; to = 2; handler = 20; depth = 1 } ∷ [];
    methods = record { start = 5; arguments = 2; more = 1; need = 3 } ∷ [];
    sizes = [];
    starts =
        record { place = 0; need = 3; calls = [] }
        ∷ record { place = 0; need = 3; calls = t.calls } ∷ [];
    names = 0;
  };
  threads = alone 0 [] [] 0 false mode.Ended ∷ t ∷ [];
  cells = record { words = []; limit = 0; names = 0; sizes = [] };
  stopped = false;
  history = history;
}

abbrev pub Leads : Instruction → Thread → Did → Thread → List Event → Type 0
Leads i t it next history =
    machine_step (machine i t []) 1 ≡ record { machine = machine i next history; did = it }

abbrev pub Sticks : Instruction → Thread → Type 0
Sticks i t = Leads i t did.Silent t []

abbrev pub event : ℕ → Happening → List Event
event call happening = record { thread = 1; call = call; happening = happening } ∷ []

-- `this` and the argument are the first locals, in order, and the other local is 0; the caller waits at its call
abbrev pub Enters : Type 0
Enters =
    Leads (op.Enter 0) (within (frame 0 [] (21 ∷ 11 ∷ 7 ∷ [])) []) (did.Acted (act.Enter 0) Done)
    (within (frame 5 (11 ∷ 21 ∷ 0 ∷ []) []) (frame 0 [] (7 ∷ []) ∷ [])) []

-- the last depth is 64: a call there throws StackOverflowError, and a call on null NullPointerException; a row of the
-- caller catches both
abbrev pub EntersNoDeeper : Type 0
EntersNoDeeper =
    Leads (op.Enter 0) (within (frame 0 [] (21 ∷ 11 ∷ [])) (replicate 63 (frame 1 [] [])))
    (did.Acted (act.Enter 0) Done)
    (within (frame 5 (11 ∷ 21 ∷ 0 ∷ []) []) (frame 0 [] [] ∷ replicate 63 (frame 1 [] []))) []
    × Leads (op.Enter 0) (within (frame 0 [] (21 ∷ 11 ∷ [])) (replicate 64 (frame 1 [] (9 ∷ [])))) did.Silent
    (within (frame 20 [] (6 ∷ 9 ∷ [])) (replicate 63 (frame 1 [] (9 ∷ [])))) []
    × Leads (op.Enter 0) (within (frame 0 [] (21 ∷ 0 ∷ [])) (frame 1 [] (9 ∷ []) ∷ [])) did.Silent
    (within (frame 20 [] (2 ∷ 9 ∷ [])) []) []

-- The frame is left, and the caller goes on after its call. The lowest frame isn't left. If there is no room for a
-- value, it isn't pushed.
abbrev pub Leaves : Type 0
Leaves =
    Leads op.Leave (within (frame 0 [] (5 ∷ [])) (frame 3 [] (7 ∷ []) ∷ [])) did.Silent
    (within (frame 4 [] (7 ∷ [])) []) []
    × Leads op.LeaveWith (within (frame 0 [] (5 ∷ 6 ∷ [])) (frame 3 [] (7 ∷ []) ∷ [])) did.Silent
    (within (frame 4 [] (5 ∷ 7 ∷ [])) []) []
    × Sticks op.Leave (within (frame 0 [] []) [])
    × Sticks op.LeaveWith (within (frame 0 [] (5 ∷ [])) [])
    × Sticks op.LeaveWith (within (frame 0 [] (5 ∷ [])) (frame 3 [] (7 ∷ 8 ∷ 9 ∷ []) ∷ []))

-- a throw drops the frames that have no row for it; it keeps as many of the lowest operands as the row says
abbrev pub Throws : Type 0
Throws =
    Leads op.Throw (within (frame 0 [] (5 ∷ [])) (frame 2 [] [] ∷ frame 1 [] (7 ∷ 8 ∷ 9 ∷ []) ∷ frame 1 [] [] ∷ []))
    did.Silent
    (within (frame 20 [] (5 ∷ 9 ∷ [])) (frame 1 [] [] ∷ [])) []
    × Sticks op.Throw (within (frame 0 [] (5 ∷ [])) (frame 2 [] [] ∷ []))
    × Sticks op.Throw (within (frame 0 [] (8 ∷ [])) (frame 1 [] [] ∷ []))

-- the call that is due begins, and no other call
abbrev pub Begins : Type 0
Begins =
    Leads (op.Call 1) (alone 0 [] (results.Int ∷ results.Int ∷ []) 0 false mode.Running) (did.Acted (act.Call 1) Done)
    (alone 1 [] (results.Int ∷ results.Int ∷ []) 0 true mode.Running) (event 1 Called)
    × Leads (op.Call 2) (alone 0 [] (results.Int ∷ results.Int ∷ []) 1 false mode.Running) (did.Acted (act.Call 2) Done)
    (alone 1 [] (results.Int ∷ results.Int ∷ []) 1 true mode.Running) (event 2 Called)
    × Sticks (op.Call 1) (alone 0 [] (results.Int ∷ []) 0 true mode.Running)
    × Sticks (op.Call 2) (alone 0 [] (results.Int ∷ results.Int ∷ []) 0 false mode.Running)
    × Sticks (op.Call 2) (alone 0 [] (results.Int ∷ []) 1 false mode.Running)

-- the pending call returns, with a value if it has one
abbrev pub Returns : Type 0
Returns =
    Leads (op.Result 1) (alone 0 (4294967295 ∷ []) (results.Int ∷ []) 0 true mode.Running)
    (did.Acted (act.Return 1 (Some 4294967295)) Done)
    (alone 1 [] (results.Int ∷ []) 1 false mode.Running) (event 1 (Returned (Some (values.Int (negsuc 0)))))
    × Leads (op.Result 1) (alone 0 (1 ∷ []) (results.Boolean ∷ []) 0 true mode.Running)
    (did.Acted (act.Return 1 (Some 1)) Done)
    (alone 1 [] (results.Boolean ∷ []) 1 false mode.Running) (event 1 (Returned (Some (values.Boolean true))))
    × Leads (op.Result 1) (alone 0 (0 ∷ []) (results.Boolean ∷ []) 0 true mode.Running)
    (did.Acted (act.Return 1 (Some 0)) Done)
    (alone 1 [] (results.Boolean ∷ []) 1 false mode.Running) (event 1 (Returned (Some (values.Boolean false))))
    × Leads (op.Result 1) (alone 0 (7 ∷ []) (results.Nothing ∷ []) 0 true mode.Running)
    (did.Acted (act.Return 1 None) Done)
    (alone 1 (7 ∷ []) (results.Nothing ∷ []) 1 false mode.Running) (event 1 (Returned None))
    × Sticks (op.Result 1) (alone 0 (7 ∷ []) (results.Int ∷ []) 0 false mode.Running)
    × Sticks (op.Result 2) (alone 0 (7 ∷ []) (results.Int ∷ results.Int ∷ []) 0 true mode.Running)
    × Sticks (op.Result 1) (alone 0 [] (results.Int ∷ []) 0 true mode.Running)

-- The pending call ends by a trap, and so does its thread. A thread that is done halts in silence. After that, neither
-- thread takes a step.
abbrev pub Stops : Type 0
Stops =
    Leads op.Trap (alone 0 (3 ∷ []) (results.Int ∷ []) 0 true mode.Running)
    (did.Acted (act.Trap 1 kinds.ArrayIndexOutOfBounds) Done)
    (alone 0 (3 ∷ []) (results.Int ∷ []) 1 false mode.Trapped) (event 1 (Trapped kinds.ArrayIndexOutOfBounds))
    × Sticks op.Trap (alone 0 (3 ∷ []) (results.Int ∷ []) 0 false mode.Running)
    × Leads op.Halt (alone 0 [] [] 0 false mode.Running) did.Silent (alone 0 [] [] 0 false mode.Ended) []
    × Leads op.Halt (alone 0 [] [] 0 false mode.Ended) did.Idle (alone 0 [] [] 0 false mode.Ended) []
    × Leads op.Trap (alone 0 (3 ∷ []) [] 0 false mode.Trapped) did.Idle (alone 0 (3 ∷ []) [] 0 false mode.Trapped) []
