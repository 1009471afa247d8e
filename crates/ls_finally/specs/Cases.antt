-- What the lowered tree does in small cases. Local 0 is `this`, local 1 is x, and the try has locals 2 and 3.
use Rattle.std.specs.Prelude.{◌≡◌, [], ◌∷◌}
use Rattle.ls_events.specs.declared.kind.Kind.TheVariants.{Arithmetic}
use Rattle.ls_lowered.specs.declared.tree.BinaryOperator.TheVariants as op
use Rattle.ls_lowered.specs.LoweredTree.{Statement, Block, SetLocal, Evaluate, While, Return, Try, Leavable, Leave}
use Rattle.ls_lowered.specs.LoweredTree.{Done, Then, Word, Local, Binary}
use Rattle.ls_lowered.specs.Course.{Course, Ends, Calls, Lost}
use Rattle.ls_lowered.specs.Statements.{Completion, Normal, Returned, Threw, execute}
use Rattle.ls_finally.specs.Flat.{flat}

abbrev pub no_calls : Calls
no_calls m ws q = Lost

-- x = x + 1
abbrev pub more : Statement
more = SetLocal 1 (Binary op.Add (Local 1) (Word 1))

abbrev pub does : Statement → Course Completion
does s = execute no_calls (flat 2 s) (7 ∷ 1 ∷ 0 ∷ 0 ∷ 0 ∷ 0 ∷ []) []

-- `try { return x; } finally { x = x + 1; }` returns x as it was (JLS 14.17, 14.20.2)
abbrev pub ReturnsFirst : Type 0
ReturnsFirst = does (Try (Return (Local 1)) more) ≡ Ends (Returned 1) (7 ∷ 2 ∷ 0 ∷ 1 ∷ 0 ∷ 0 ∷ []) []

-- `try { 1 / 0; } finally { x = x + 1; }` throws, after one run of the block
abbrev pub ThrowsOn : Type 0
ThrowsOn = does (Try (Evaluate (Binary op.Divide (Word 1) (Word 0))) more) ≡ Ends (Threw Arithmetic)
    (7 ∷ 2 ∷ 1 ∷ 0 ∷ 0 ∷ 0 ∷ []) []

-- `try { 1 / 0; } finally { return 9; }` returns
abbrev pub ReturnReplaces : Type 0
ReturnReplaces = does (Try (Evaluate (Binary op.Divide (Word 1) (Word 0))) (Return (Word 9))) ≡ Ends (Returned 9)
    (7 ∷ 1 ∷ 1 ∷ 0 ∷ 0 ∷ 0 ∷ []) []

-- `while (true) { try { x = x + 1; break; } finally { x = x + 1; } }` sees what the try block assigned, and runs the
-- finally block once
abbrev pub BreaksThrough : Type 0
BreaksThrough = does (Leavable (While (Word 1) (Try (Block (Then more (Then (Leave 0) Done))) more)) Done) ≡ Ends Normal
    (7 ∷ 3 ∷ 0 ∷ 0 ∷ 0 ∷ 0 ∷ []) []

-- a finally block that throws is not run again, and its reason replaces the first
abbrev pub ThrowReplaces : Type 0
ThrowReplaces = does
    (Try (Return (Local 1)) (Block (Then more (Then (Evaluate (Binary op.Divide (Word 1) (Word 0))) Done)))) ≡ Ends
    (Threw Arithmetic) (7 ∷ 2 ∷ 0 ∷ 1 ∷ 0 ∷ 0 ∷ []) []
