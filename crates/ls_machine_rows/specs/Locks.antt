-- SEE, TAKE and DROP by thread 1, in each case: the lock is free, its own, or that of thread 2.
use Rattle.std.specs.Prelude.{◌≡◌, ℕ, List, [], ◌∷◌, ◌++◌, replicate, false}
use Rattle.ls_code.specs.Code.{Code}
use Rattle.ls_code.specs.Frame.{Frame}
use Rattle.ls_code.specs.Thread.{Thread}
use Rattle.ls_code.specs.Machine.{Machine, Entry, machine_step, machine_run, machine_trace}
use Rattle.ls_code.specs.declared.step.Did.{Did}
use Rattle.ls_code.specs.declared.step.Did.TheVariants as did
use Rattle.ls_code.specs.declared.step.Mode.{Mode}
use Rattle.ls_code.specs.declared.step.Mode.TheVariants as mode
use Rattle.ls_code.specs.declared.instruction.Instruction.{Instruction}
use Rattle.ls_code.specs.declared.instruction.Instruction.TheVariants as op
use Rattle.ls_events.specs.declared.kind.Kind.TheVariants as kinds
use Rattle.ls_events.specs.declared.action.Action.{Action}
use Rattle.ls_events.specs.declared.action.Action.TheVariants as act
use Rattle.ls_events.specs.declared.action.Answer.{Answer}
use Rattle.ls_events.specs.declared.action.Answer.TheVariants.{Done, Gives, Fails}

-- a thread's one frame, with room for three operands
abbrev pub frame : ℕ → List ℕ → Frame
frame counter operands = record { counter = counter; locals = []; operands = operands; need = 3 }

abbrev pub thread : Mode → ℕ → List ℕ → Thread
thread goes counter operands =
    record { top = frame counter operands; below = []; mode = goes; calls = []; ended = 0; pending = false }

-- these instructions at places from 0 on; a throw at any of these places leads to place 20
abbrev pub code : List Instruction → Code
code instructions = record {
  instructions = instructions;
  handlers = record { from = 0; to = 20; handler = 20; depth = 0 } ∷ [];
  methods = [];
  sizes = [];
  starts = [];
  names = 0;
}

-- the setup has ended, two threads go on, and the only cell, at address 1, is that of a lock
abbrev pub machine : Code → List Thread → ℕ → Machine
machine p threads word = record {
  code = p;
  threads = thread mode.Ended 0 [] ∷ threads;
  cells = record { words = word ∷ []; limit = 1; names = 0; sizes = [] };
  stopped = false;
  history = [];
}

-- thread 1 is at a place with these operands, the top first
abbrev pub at : Instruction → ℕ → List ℕ → ℕ → Machine
at i counter operands word = machine (code (i ∷ [])) (thread mode.Running counter operands ∷ []) word

-- the instruction at place 0, on operands and the lock's word, did this; it left the thread at a place, with operands
-- and a word
abbrev pub Goes : Instruction → List ℕ → ℕ → Did → ℕ → List ℕ → ℕ → Type 0
Goes i operands word it counter left next =
    machine_step (at i 0 operands word) 1 ≡ record { machine = at i counter left next; did = it }

-- nothing happens at all
abbrev pub Sticks : Instruction → List ℕ → ℕ → Type 0
Sticks i operands word = Goes i operands word did.Silent 0 operands word

-- The words of the lock. Thread 1 holds it once, twice, one time less than the most, and the most. Thread 2 holds it
-- once.
abbrev pub once : ℕ
once = 8589934593

abbrev pub twice : ℕ
twice = 8589934594

abbrev pub almost : ℕ
almost = 10737418238

abbrev pub most : ℕ
most = 10737418239

abbrev pub other : ℕ
other = 12884901889

-- SEE for lock(): the word is pushed, whoever owns the lock
abbrev pub SeeForLock : Type 0
SeeForLock =
    (Goes (op.See 1) (1 ∷ []) 0 did.Silent 1 (0 ∷ 1 ∷ []) 0)
    × (Goes (op.See 1) (1 ∷ []) once did.Silent 1 (once ∷ 1 ∷ []) once)
    × (Goes (op.See 1) (1 ∷ []) most did.Silent 1 (most ∷ 1 ∷ []) most)
    × (Goes (op.See 1) (1 ∷ []) other did.Silent 1 (other ∷ 1 ∷ []) other)

-- SEE for tryLock(): if another thread owns the lock, the operation is over, and gives false
abbrev pub SeeForTry : Type 0
SeeForTry =
    (Goes (op.See 2) (1 ∷ []) 0 did.Silent 1 (0 ∷ 1 ∷ []) 0)
    × (Goes (op.See 2) (1 ∷ []) once did.Silent 1 (once ∷ 1 ∷ []) once)
    × (Goes (op.See 2) (1 ∷ []) most did.Silent 1 (most ∷ 1 ∷ []) most)
    × (Goes (op.See 2) (1 ∷ []) other (did.Acted (act.TryLock 1) (Gives 0)) 1 (other ∷ 1 ∷ []) other)

-- SEE for unlock(): if the thread doesn't own the lock, the operation is over, and throws IllegalMonitorStateException
abbrev pub SeeForUnlock : Type 0
SeeForUnlock =
    (Goes (op.See 3) (1 ∷ []) once did.Silent 1 (once ∷ 1 ∷ []) once)
    × (Goes (op.See 3) (1 ∷ []) twice did.Silent 1 (twice ∷ 1 ∷ []) twice)
    × (Goes (op.See 3) (1 ∷ []) most did.Silent 1 (most ∷ 1 ∷ []) most)
    × (Goes (op.See 3) (1 ∷ []) 0 (did.Acted (act.Unlock 1) (Fails kinds.IllegalMonitorState)) 20 (5 ∷ []) 0)
    × (Goes (op.See 3) (1 ∷ []) other (did.Acted (act.Unlock 1) (Fails kinds.IllegalMonitorState)) 20 (5 ∷ []) other)

-- SEE on null throws NullPointerException in silence
abbrev pub SeeOfNull : Type 0
SeeOfNull =
    (Goes (op.See 1) (0 ∷ []) once did.Silent 20 (2 ∷ []) once)
    × (Goes (op.See 2) (0 ∷ []) once did.Silent 20 (2 ∷ []) once)
    × (Goes (op.See 3) (0 ∷ []) once did.Silent 20 (2 ∷ []) once)

-- SEE without an operand, without room, at no cell, and for no operation
abbrev pub SeeSticks : Type 0
SeeSticks =
    (Sticks (op.See 1) [] 0)
    × (Sticks (op.See 1) (1 ∷ 1 ∷ 1 ∷ []) 0)
    × (Sticks (op.See 1) (2 ∷ []) 0)
    × (Sticks (op.See 0) (1 ∷ []) 0)
    × (Sticks (op.See 6) (1 ∷ []) 0)

-- TAKE wins its exchange: a free lock is taken, and a lock of its own has a hold more
abbrev pub TakeWins : Type 0
TakeWins =
    (Goes (op.Take 1) (0 ∷ 1 ∷ []) 0 (did.Acted (act.Lock 1) Done) 1 (1 ∷ 1 ∷ []) once)
    × (Goes (op.Take 1) (once ∷ 1 ∷ []) once (did.Acted (act.Lock 1) Done) 1 (1 ∷ 1 ∷ []) twice)
    × (Goes (op.Take 1) (almost ∷ 1 ∷ []) almost (did.Acted (act.Lock 1) Done) 1 (1 ∷ 1 ∷ []) most)
    × (Goes (op.Take 2) (0 ∷ 1 ∷ []) 0 (did.Acted (act.TryLock 1) (Gives 1)) 1 (1 ∷ 1 ∷ []) once)
    × (Goes (op.Take 2) (once ∷ 1 ∷ []) once (did.Acted (act.TryLock 1) (Gives 1)) 1 (1 ∷ 1 ∷ []) twice)
    × (Goes (op.Take 2) (almost ∷ 1 ∷ []) almost (did.Acted (act.TryLock 1) (Gives 1)) 1 (1 ∷ 1 ∷ []) most)

-- if the word has changed, TAKE loses its exchange: lock() will look again, tryLock() gives false
abbrev pub TakeLoses : Type 0
TakeLoses =
    (Goes (op.Take 1) (0 ∷ 1 ∷ []) other did.Silent 1 (0 ∷ 1 ∷ []) other)
    × (Goes (op.Take 2) (0 ∷ 1 ∷ []) other (did.Acted (act.TryLock 1) (Gives 0)) 1 (0 ∷ 1 ∷ []) other)
    × (Goes (op.Take 1) (once ∷ 1 ∷ []) twice did.Silent 1 (0 ∷ 1 ∷ []) twice)
    × (Goes (op.Take 2) (once ∷ 1 ∷ []) 0 (did.Acted (act.TryLock 1) (Gives 0)) 1 (0 ∷ 1 ∷ []) 0)

-- TAKE with the word of a lock that another thread owns: nothing is exchanged, whatever the cell holds now
abbrev pub TakeOfAnother : Type 0
TakeOfAnother =
    (Goes (op.Take 1) (other ∷ 1 ∷ []) other did.Silent 1 (0 ∷ 1 ∷ []) other)
    × (Goes (op.Take 1) (other ∷ 1 ∷ []) 0 did.Silent 1 (0 ∷ 1 ∷ []) 0)
    × (Goes (op.Take 2) (other ∷ 1 ∷ []) other did.Silent 1 (0 ∷ 1 ∷ []) other)
    × (Goes (op.Take 2) (other ∷ 1 ∷ []) 0 did.Silent 1 (0 ∷ 1 ∷ []) 0)

-- TAKE past the most holds throws Error
abbrev pub TakePastTheMost : Type 0
TakePastTheMost =
    (Goes (op.Take 1) (most ∷ 1 ∷ []) most (did.Acted (act.Lock 1) (Fails kinds.Error)) 20 (7 ∷ []) most)
    × (Goes (op.Take 2) (most ∷ 1 ∷ []) most (did.Acted (act.TryLock 1) (Fails kinds.Error)) 20 (7 ∷ []) most)

-- TAKE without two operands, at no cell, and for no operation
abbrev pub TakeSticks : Type 0
TakeSticks =
    (Sticks (op.Take 1) (0 ∷ []) 0)
    × (Sticks (op.Take 1) (0 ∷ 2 ∷ []) 0)
    × (Sticks (op.Take 0) (0 ∷ 1 ∷ []) 0)
    × (Sticks (op.Take 3) (0 ∷ 1 ∷ []) 0)
    × (Sticks (op.Take 5) (0 ∷ 1 ∷ []) 0)

-- DROP: one hold less; if none is left, the lock is free
abbrev pub Drops : Type 0
Drops =
    (Goes (op.DropLock 0) (once ∷ 1 ∷ []) once (did.Acted (act.Unlock 1) Done) 1 [] 0)
    × (Goes (op.DropLock 0) (twice ∷ 1 ∷ []) twice (did.Acted (act.Unlock 1) Done) 1 [] once)
    × (Goes (op.DropLock 0) (most ∷ 1 ∷ []) most (did.Acted (act.Unlock 1) Done) 1 [] almost)

-- DROP with the word of a lock that the thread doesn't own, without two operands, at no cell, and for no operation
abbrev pub DropSticks : Type 0
DropSticks =
    (Sticks (op.DropLock 0) (0 ∷ 1 ∷ []) 0)
    × (Sticks (op.DropLock 0) (other ∷ 1 ∷ []) other)
    × (Sticks (op.DropLock 0) (once ∷ []) once)
    × (Sticks (op.DropLock 0) (once ∷ 2 ∷ []) once)
    × (Sticks (op.DropLock 2) (once ∷ 1 ∷ []) once)

-- SEE, TAKE and DROP of a monitor do what those of lock() and unlock() do
abbrev pub LockOfMonitor : Type 0
LockOfMonitor =
    (Goes (op.See 4) (1 ∷ []) 0 did.Silent 1 (0 ∷ 1 ∷ []) 0)
    × (Goes (op.See 4) (1 ∷ []) other did.Silent 1 (other ∷ 1 ∷ []) other)
    × (Goes (op.See 4) (0 ∷ []) once did.Silent 20 (2 ∷ []) once)
    × (Goes (op.Take 4) (0 ∷ 1 ∷ []) 0 (did.Acted (act.LockMonitor 1) Done) 1 (1 ∷ 1 ∷ []) once)
    × (Goes (op.Take 4) (once ∷ 1 ∷ []) once (did.Acted (act.LockMonitor 1) Done) 1 (1 ∷ 1 ∷ []) twice)
    × (Goes (op.Take 4) (0 ∷ 1 ∷ []) other did.Silent 1 (0 ∷ 1 ∷ []) other)
    × (Goes (op.Take 4) (other ∷ 1 ∷ []) other did.Silent 1 (0 ∷ 1 ∷ []) other)
    × (Goes (op.Take 4) (most ∷ 1 ∷ []) most (did.Acted (act.LockMonitor 1) (Fails kinds.Error)) 20 (7 ∷ []) most)

abbrev pub UnlockOfMonitor : Type 0
UnlockOfMonitor =
    (Goes (op.See 5) (1 ∷ []) once did.Silent 1 (once ∷ 1 ∷ []) once)
    × (Goes (op.See 5) (1 ∷ []) other (did.Acted (act.UnlockMonitor 1) (Fails kinds.IllegalMonitorState)) 20 (5 ∷ [])
    other)
    × (Goes (op.See 5) (1 ∷ []) 0 (did.Acted (act.UnlockMonitor 1) (Fails kinds.IllegalMonitorState)) 20 (5 ∷ []) 0)
    × (Goes (op.DropLock 1) (once ∷ 1 ∷ []) once (did.Acted (act.UnlockMonitor 1) Done) 1 [] 0)
    × (Goes (op.DropLock 1) (twice ∷ 1 ∷ []) twice (did.Acted (act.UnlockMonitor 1) Done) 1 [] once)

-- lock(); lock(); unlock(); unlock(), each by load and exchange
abbrev pub locks_twice : List Instruction
locks_twice =
    op.Push 1 ∷ op.See 1 ∷ op.Take 1 ∷ op.JumpIfFalse 1 ∷ op.Pop
    ∷ op.Push 1 ∷ op.See 1 ∷ op.Take 1 ∷ op.JumpIfFalse 6 ∷ op.Pop
    ∷ op.Push 1 ∷ op.See 3 ∷ op.DropLock 0
    ∷ op.Push 1 ∷ op.See 3 ∷ op.DropLock 0 ∷ op.Halt ∷ []

-- threads 1 and 2 both run these instructions
abbrev pub both : Machine
both = machine (code locks_twice) (thread mode.Running 0 [] ∷ thread mode.Running 0 [] ∷ []) 0

abbrev pub entry : ℕ → Action ℕ → Answer ℕ → Entry
entry n action answer = record { thread = n; action = action; answer = answer }

-- while thread 1 holds the lock, thread 2 loops in silence; after the first unlock one hold is left
abbrev pub TwoHoldsDropped : Type 0
TwoHoldsDropped =
    (machine_trace both (replicate 10 1 ++ replicate 8 2 ++ replicate 3 1 ++ replicate 4 2 ++ replicate 4 1 ++
    replicate 5 2) ≡ entry 1 (act.Lock 1) Done ∷ entry 1 (act.Lock 1) Done ∷ entry 1 (act.Unlock 1) Done ∷
    entry 1 (act.Unlock 1) Done ∷ entry 2 (act.Lock 1) Done ∷ [])
    × ((machine_run both (replicate 10 1)).cells.words ≡ twice ∷ [])
    × ((machine_run both (replicate 13 1)).cells.words ≡ once ∷ [])
    × ((machine_run both (replicate 16 1)).cells.words ≡ 0 ∷ [])
