-- Small methods with the code that they have, and a thread that runs one of them.
use Rattle.std.specs.Prelude.{◌≡◌, ℕ, List, [], ◌∷◌, false}
use Rattle.ls_events.specs.declared.kind.Kind.TheVariants.{NullPointer}
use Rattle.ls_events.specs.declared.action.Action.TheVariants as act
use Rattle.ls_events.specs.declared.action.Answer.TheVariants.{Done as Answered, Gives, Fails}
use Rattle.ls_code.specs.Code.{Code}
use Rattle.ls_code.specs.Thread.{Thread}
use Rattle.ls_code.specs.Fed.{Fed}
use Rattle.ls_code.specs.Reading.{fed}
use Rattle.ls_code.specs.Fed as fed
use Rattle.ls_code.specs.declared.code.HandlerRow.{HandlerRow}
use Rattle.ls_code.specs.declared.instruction.Instruction.{Instruction}
use Rattle.ls_code.specs.declared.instruction.Instruction.TheVariants as op
use Rattle.ls_code.specs.declared.step.Mode.TheVariants as mode
use Rattle.ls_lowered.specs.LoweredTree.{Word, Local, And, Or, Field, Call, MakeObject, End, More, Statement, Block}
use Rattle.ls_lowered.specs.LoweredTree.{Evaluate, If, While, Return, Guarded, Throw, Leavable, Leave, Done, Then}
use Rattle.ls_lowered.specs.LoweredTree.{Method}
use Rattle.ls_lowered.specs.Course.{Answers, Told}
use Rattle.ls_lowered.specs.Course as course
use Rattle.ls_lowered.specs.Methods.{invoke}
use Rattle.ls_emit.specs.Units.{CodeUnit, unit_of, units_of, LieIn}
use Rattle.ls_emit.specs.Emittable.{IsEmittableFile}

abbrev method : ℕ → ℕ → Statement → Method
method arguments locals body = record { arguments = arguments; locals = locals; body = body }

abbrev unit : List Instruction → List HandlerRow → ℕ → ℕ → ℕ → CodeUnit
unit instructions handlers arguments more need = record {
  instructions = instructions;
  handlers = handlers;
  arguments = arguments;
  more = more;
  need = need;
}

-- if (1) return 2;
abbrev pub Chooses : Type 0
Chooses =
    unit_of (method 1 0 (If (Word 1) (Return (Word 2)) (Block Done)))
    ≡ unit (op.Push 1 ∷ op.JumpIfFalse 5 ∷ op.Push 2 ∷ op.LeaveWith ∷ op.Jump 5 ∷ op.Push 0 ∷ op.LeaveWith ∷ []) [] 1 0
    1

-- return 0 && (1 || 0), of two locals and a word
abbrev pub Shortcuts : Type 0
Shortcuts =
    unit_of (method 2 0 (Return (And (Local 0) (Or (Local 1) (Word 0)))))
    ≡ unit (op.Load 0 ∷ op.JumpIfFalse 8 ∷ op.Load 1 ∷ op.JumpIfFalse 6 ∷ op.Push 1 ∷ op.Jump 7 ∷ op.Push 0 ∷
    op.Jump 9 ∷ op.Push 0 ∷ op.LeaveWith ∷ op.Push 0 ∷ op.LeaveWith ∷ []) [] 2 0 1

-- a loop: its body leaves a guarded region to go on, and the handler throws on
abbrev pub Loops : Type 0
Loops =
    unit_of (method 1 1 (While (Local 0) (Leavable (Guarded (Leave 0) 1 (Throw 1)) Done)))
    ≡ unit (op.Load 0 ∷ op.JumpIfFalse 8 ∷ op.Jump 7 ∷ op.Jump 7 ∷ op.Store 1 ∷ op.Load 1 ∷ op.Throw ∷ op.Turn 0 ∷
    op.Push 0 ∷ op.LeaveWith ∷ [])
    (record { from = 2; to = 3; handler = 4; depth = 0 } ∷ []) 1 1 1

-- a leavable statement with an exit, and a loop that is left from the body of another loop and from its exit
abbrev pub Leaves : Type 0
Leaves =
    unit_of (method 1 0
    (Block (Then (Leavable (Leave 0) (Then (Evaluate (Word 5)) Done))
    (Then (Leavable (While (Word 1) (Leavable (Leave 2) (Then (Leave 0) Done))) Done) Done))))
    ≡ unit (op.Jump 2 ∷ op.Jump 4 ∷ op.Push 5 ∷ op.Pop ∷ op.Push 1 ∷ op.JumpIfFalse 10 ∷ op.Jump 10 ∷ op.Jump 9 ∷
    op.Jump 10 ∷ op.Turn 4 ∷ op.Push 0 ∷ op.LeaveWith ∷ []) [] 1 0 1

-- a call whose argument is a new object
abbrev pub Calls : Type 0
Calls =
    unit_of (method 1 0 (Evaluate (Call 1 (Local 0) (More (MakeObject 3 2 (More (Word 7) End)) End))))
    ≡ unit (op.Load 0 ∷ op.NewObject 3 ∷ op.Dup ∷ op.Push 7 ∷ op.Enter 2 ∷ op.Pop ∷ op.Enter 1 ∷ op.Pop ∷ op.Push 0 ∷
    op.LeaveWith ∷ []) [] 1 0 4

-- a method that reads a field of its `this`, in a code that has a call of it in front
abbrev pub reader : Method
reader = method 1 0 (Return (Field (Local 0) 2))

abbrev pub whole : ℕ → Code
whole this = record {
  instructions = op.Push this ∷ op.Enter 0 ∷ op.Halt ∷ op.Load 0 ∷ op.GetField 3 ∷ op.LeaveWith ∷ op.Push 0 ∷
      op.LeaveWith ∷ [];
  handlers = [];
  methods = record { start = 3; arguments = 1; more = 0; need = 1 } ∷ [];
  sizes = [];
  starts = [];
  names = 0;
}

abbrev caller : Thread
caller = record {
  top = record { counter = 0; locals = []; operands = []; need = 1 };
  below = [];
  mode = mode.Running;
  calls = [];
  ended = 0;
  pending = false;
}

abbrev runs : ℕ → Answers → Fed
runs this answers = fed (whole this) 0 8 8 caller answers

-- What the thread asks for and how it ends, and what the method's course says. If `this` is null, the thread is stuck,
-- since nothing catches the throw.
abbrev pub Runs : Type 0
Runs =
    (runs 9 [] ≡ fed.Asked (act.Enter 0)) × (runs 9 (Answered ∷ []) ≡ fed.Asked (act.ReadField 9 3)) ×
    (runs 9 (Answered ∷ Gives 5 ∷ []) ≡ fed.Ended)
    × (runs 9 (Answered ∷ Fails NullPointer ∷ []) ≡ fed.Lost) × (runs 0 [] ≡ fed.Lost)
    × (invoke (reader ∷ []) 64 0 (9 ∷ []) (Answered ∷ Gives 5 ∷ []) ≡ course.Gave 5 []) ×
    (invoke (reader ∷ []) 64 0 (9 ∷ []) (Answered ∷ Fails NullPointer ∷ []) ≡ course.Raised NullPointer [])

-- the law speaks of this code: it has the method's unit, and the method has code
abbrev pub Lies : Type 0
Lies = LieIn (whole 9) 8 (units_of (reader ∷ [])) × IsEmittableFile (reader ∷ [])

abbrev pub Rows : Type 0
Rows = Chooses × Shortcuts × Loops × Leaves × Calls × Runs × Lies
