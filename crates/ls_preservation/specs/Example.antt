-- A small program and its code. They show that what is asked can be met.
--
--     class A { void work() { Lock l = new ReentrantLock(); l.lock(); } }
--     setup { a = new A(); } thread T { a.work(); }
use Rattle.std.specs.Prelude.{[], ◌∷◌, None}
use Rattle.ls_events.specs.declared.value.ValueType.TheVariants as type
use Rattle.ls_checked.specs.declared.tree.Called.TheVariants.{LockIt}
use Rattle.ls_checked.specs.CheckedTree.{File, Slot, Call, MakeLock, End, Block, SetSlot, Evaluate, Done, Then}
use Rattle.ls_checked.specs.CheckedProgram.{Program, Making, Calling}
use Rattle.ls_code.specs.Code.{Code}
use Rattle.ls_code.specs.declared.code.CallResult.TheVariants.{Nothing}
use Rattle.ls_code.specs.declared.instruction.Instruction.TheVariants as op

abbrev pub file : File
file = record {
  classes = record { fields = []; constructor = 1 } ∷ [];
  methods =
      record {
        class = 0;
        parameters = 0;
        slots = type.Class 0 ∷ type.Lock ∷ [];
        result = None;
        body = Block (Then (SetSlot 1 MakeLock) (Then (Evaluate (Call (Slot 1) LockIt End)) Done));
      }
      ∷ record { class = 0; parameters = 0; slots = type.Class 0 ∷ []; result = None; body = Block Done }
      ∷ [];
}

-- the names' texts don't matter here
abbrev pub program : Program
program = record {
  names = record { name = []; class = 0 } ∷ [];
  threads =
      record { name = []; calls = Making 0 0 [] [] ∷ [] }
      ∷ record { name = []; calls = Calling 0 0 [] None [] ∷ [] }
      ∷ [];
}

abbrev pub code : Code
code = record {
  instructions =
      op.Call 1 ∷ op.NewObject 0 ∷ op.Dup ∷ op.Enter 1 ∷ op.PutName 0 ∷ op.Result 1 ∷ op.Halt
      ∷ op.Call 1 ∷ op.GetName 0 ∷ op.Enter 0 ∷ op.Result 1 ∷ op.Halt ∷ op.Trap
      ∷ op.NewLock ∷ op.Store 1 ∷ op.Load 1 ∷ op.See 1 ∷ op.Take 1 ∷ op.JumpIfFalse 16 ∷ op.Pop ∷ op.Leave
      ∷ op.Leave ∷ [];
  handlers = record { from = 7; to = 12; handler = 12; depth = 0 } ∷ [];
  methods = record { start = 13; arguments = 1; more = 1; need = 2 } ∷
      record { start = 21; arguments = 1; more = 0; need = 0 } ∷ [];
  sizes = 1 ∷ [];
  starts = record { place = 0; need = 2; calls = Nothing ∷ [] } ∷ record { place = 7; need = 1; calls = Nothing ∷ [] } ∷
      [];
  names = 1;
}
