-- Wrong codes of small programs. They show what is refused.
use Rattle.std.specs.Prelude.{ℕ, List, [], ◌∷◌, ◌++◌, None, replicate}
use Rattle.ls_events.specs.declared.value.ValueType.TheVariants as type
use Rattle.ls_checked.specs.declared.tree.Called.TheVariants.{LockIt, UnlockIt}
use Rattle.ls_checked.specs.CheckedTree.{File, Expression, Slot, Field, Call, MakeLock, End, Block, SetField, Evaluate}
use Rattle.ls_checked.specs.CheckedTree.{Done, Then}
use Rattle.ls_checked.specs.CheckedProgram.{Program, Making, Calling}
use Rattle.ls_code.specs.Code.{Code}
use Rattle.ls_code.specs.declared.code.CallResult.TheVariants.{Nothing}
use Rattle.ls_code.specs.declared.instruction.Instruction.TheVariants as op
use Rattle.ls_preservation.specs.Example.{code, program}

-- setup { } thread T { }
abbrev pub no_file : File
no_file = record { classes = []; methods = [] }

abbrev pub no_calls : Program
no_calls = record { names = []; threads = record { name = []; calls = [] } ∷ record { name = []; calls = [] } ∷ [] }

-- T starts at this place
abbrev pub starting_at : ℕ → Code
starting_at place = record {
  instructions = op.Halt ∷ op.Jump 1 ∷ [];
  handlers = [];
  methods = [];
  sizes = [];
  starts = record { place = 0; need = 0; calls = [] } ∷ record { place = place; need = 0; calls = [] } ∷ [];
  names = 0;
}

-- T loops in one place for ever; T is stuck after the end of the code
abbrev pub goes_round : Code
goes_round = starting_at 1

abbrev pub stuck : Code
stuck = starting_at 7

-- codes of the example of ls_preservation: nothing moves; an object takes two cells instead of one; T's return is left
-- out
abbrev pub still : Code
still = record code { instructions = op.Jump 0 ∷ [] }

abbrev pub fat : Code
fat = record code { sizes = 2 ∷ [] }

abbrev pub mute : Code
mute = record code {
  instructions =
      op.Call 1 ∷ op.NewObject 0 ∷ op.Dup ∷ op.Enter 1 ∷ op.PutName 0 ∷ op.Result 1 ∷ op.Halt
      ∷ op.Call 1 ∷ op.GetName 0 ∷ op.Enter 0 ∷ op.Halt ∷ op.Halt ∷ op.Trap
      ∷ op.NewLock ∷ op.Store 1 ∷ op.Load 1 ∷ op.See 1 ∷ op.Take 1 ∷ op.JumpIfFalse 16 ∷ op.Pop ∷ op.Leave
      ∷ op.Leave ∷ [];
}

-- its program with a thread U without calls; T and U have each other's place in one code, and the other code has no
-- U
abbrev pub two : Program
two = record {
  names = program.names;
  threads =
      record { name = []; calls = Making 0 0 [] [] ∷ [] }
      ∷ record { name = []; calls = Calling 0 0 [] None [] ∷ [] }
      ∷ record { name = []; calls = [] }
      ∷ [];
}

abbrev pub swapped : Code
swapped = record code {
  starts =
      record { place = 0; need = 2; calls = Nothing ∷ [] }
      ∷ record { place = 11; need = 1; calls = [] }
      ∷ record { place = 7; need = 1; calls = Nothing ∷ [] }
      ∷ [];
}

abbrev pub fewer : Code
fewer = code

--     class A { Lock l; A() { this.l = new ReentrantLock(); } void work() { this.l.lock(); this.l.unlock(); } }
--     setup { a = new A(); } thread T { a.work(); } thread U { a.work(); }
abbrev lock : Expression
lock = Field (Slot 0) 0 0

abbrev pub locking_file : File
locking_file = record {
  classes = record { fields = type.Lock ∷ []; constructor = 1 } ∷ [];
  methods =
      record {
        class = 0;
        parameters = 0;
        slots = type.Class 0 ∷ [];
        result = None;
        body = Block (Then (Evaluate (Call lock LockIt End)) (Then (Evaluate (Call lock UnlockIt End)) Done));
      }
      ∷ record {
        class = 0;
        parameters = 0;
        slots = type.Class 0 ∷ [];
        result = None;
        body = Block (Then (SetField (Slot 0) 0 MakeLock) Done);
      }
      ∷ [];
}

abbrev pub locking : Program
locking = record {
  names = record { name = []; class = 0 } ∷ [];
  threads =
      record { name = []; calls = Making 0 0 [] [] ∷ [] }
      ∷ record { name = []; calls = Calling 0 0 [] None [] ∷ [] }
      ∷ record { name = []; calls = Calling 0 0 [] None [] ∷ [] }
      ∷ [];
}

-- after a lost exchange of `lock()` a thread goes on at this place
abbrev pub after_lost : ℕ → Code
after_lost place = record {
  instructions =
      op.Call 1 ∷ op.NewObject 0 ∷ op.Dup ∷ op.Enter 1 ∷ op.PutName 0 ∷ op.Result 1 ∷ op.Halt
      ∷ op.Call 1 ∷ op.GetName 0 ∷ op.Enter 0 ∷ op.Result 1 ∷ op.Halt ∷ op.Trap
      ∷ op.Load 0 ∷ op.GetField 1 ∷ op.See 1 ∷ op.Take 1 ∷ op.JumpIfFalse place ∷ op.Pop
      ∷ op.Load 0 ∷ op.GetField 1 ∷ op.See 3 ∷ op.DropLock 0 ∷ op.Leave
      ∷ op.Load 0 ∷ op.NewLock ∷ op.PutField 1 ∷ op.Leave
      ∷ op.Jump 28 ∷ [];
  handlers = [];
  methods = record { start = 13; arguments = 1; more = 0; need = 2 } ∷
      record { start = 24; arguments = 1; more = 0; need = 2 } ∷ [];
  sizes = 2 ∷ [];
  starts =
      record { place = 0; need = 2; calls = Nothing ∷ [] }
      ∷ record { place = 7; need = 1; calls = Nothing ∷ [] }
      ∷ record { place = 7; need = 1; calls = Nothing ∷ [] }
      ∷ [];
  names = 1;
}

-- T loads the lock's word again; T loops in one place for ever
abbrev pub looks_again : Code
looks_again = after_lost 15

abbrev pub gives_up : Code
gives_up = after_lost 28

-- T sees that the lock is free; U takes it; T loses its exchange; U leaves the lock
abbrev pub lost_race : List ℕ
lost_race = replicate 11 0 ++ replicate 6 1 ++ replicate 7 2 ++ 1 ∷ replicate 6 2
