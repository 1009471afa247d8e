-- A small program, methods for it, and the code to which they are linked:
--
--     class A { A() { } void work(int n) { n; } }
--     setup { a = new A(); } thread T { a.work(-1); }
use Rattle.std.specs.Prelude.{◌≡◌, negsuc, [], ◌∷◌, None}
use Rattle.ls_events.specs.declared.value.Value.TheVariants.{Int}
use Rattle.ls_events.specs.declared.value.ValueType.TheVariants as type
use Rattle.ls_checked.specs.CheckedTree.{File, Slot, Block, Evaluate, Done, Then}
use Rattle.ls_checked.specs.CheckedProgram.{Program, Making, Calling}
use Rattle.ls_lowered.specs.LoweredTree as low
use Rattle.ls_code.specs.Code.{Code}
use Rattle.ls_code.specs.declared.code.CallResult.TheVariants.{Nothing}
use Rattle.ls_code.specs.declared.instruction.Instruction.TheVariants as op
use Rattle.ls_emit.specs.Units.{units_of}
use Rattle.ls_linker.specs.Linked.{linked}

abbrev pub file : File
file = record {
  classes = record { fields = type.Int ∷ type.Int ∷ []; constructor = 0 } ∷ [];
  methods =
      record { class = 0; parameters = 0; slots = type.Class 0 ∷ []; result = None; body = Block Done }
      ∷ record {
        class = 0;
        parameters = 1;
        slots = type.Class 0 ∷ type.Int ∷ [];
        result = None;
        body = Block (Then (Evaluate (Slot 1)) Done);
      }
      ∷ [];
}

-- the names' texts don't matter here
abbrev pub program : Program
program = record {
  names = record { name = []; class = 0 } ∷ [];
  threads =
      record { name = []; calls = Making 0 0 [] [] ∷ [] }
      ∷ record { name = []; calls = Calling 0 1 [] None (Int (negsuc 0) ∷ []) ∷ [] }
      ∷ [];
}

-- the second method has a handler row, and a jump over its handler
abbrev pub lowered : low.File
lowered =
    record { arguments = 1; locals = 0; body = low.Block low.Done }
    ∷ record { arguments = 2; locals = 1; body = low.Guarded (low.Evaluate (low.Local 1)) 2 (low.Throw 2) }
    ∷ []

abbrev pub code : Code
code = record {
  instructions =
      op.Push 0 ∷ op.LeaveWith
      ∷ op.Load 1 ∷ op.Pop ∷ op.Jump 8 ∷ op.Store 2 ∷ op.Load 2 ∷ op.Throw ∷ op.Push 0 ∷ op.LeaveWith
      ∷ op.Call 1 ∷ op.NewObject 0 ∷ op.Dup ∷ op.Enter 0 ∷ op.Pop ∷ op.PutName 0 ∷ op.Result 1 ∷ op.Halt ∷ op.Trap
      ∷ op.Call 1 ∷ op.GetName 0 ∷ op.Push 4294967295 ∷ op.Enter 1 ∷ op.Pop ∷ op.Result 1 ∷ op.Halt ∷ op.Trap ∷ [];
  handlers =
      record { from = 2; to = 4; handler = 5; depth = 0 }
      ∷ record { from = 10; to = 18; handler = 18; depth = 0 }
      ∷ record { from = 19; to = 26; handler = 26; depth = 0 } ∷ [];
  methods = record { start = 0; arguments = 1; more = 0; need = 1 } ∷
      record { start = 2; arguments = 2; more = 1; need = 1 } ∷ [];
  sizes = 3 ∷ [];
  starts = record { place = 10; need = 2; calls = Nothing ∷ [] } ∷
      record { place = 19; need = 2; calls = Nothing ∷ [] } ∷ [];
  names = 1;
}

abbrev pub LinksSo : Type 0
LinksSo = linked file program (units_of lowered) ≡ code
