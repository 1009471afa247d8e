-- What the steps of linking add to a code.
use Rattle.std.specs.Prelude.{◌≡◌, List, [], ◌++◌, length, map}
use Rattle.ls_checked.specs.CheckedTree.{Class, File}
use Rattle.ls_checked.specs.CheckedProgram.{ProgramCall, ThreadProgram, Program}
use Rattle.ls_code.specs.Code.{Code}
use Rattle.ls_code.specs.declared.instruction.Instruction.{Instruction}
use Rattle.ls_emit.specs.Units.{CodeUnit}
use Rattle.ls_code.specs.declared.code.HandlerRow.{HandlerRow}
use Rattle.ls_linker.specs.Threads.{calls_code, thread_row}
use Rattle.ls_linker.specs.Linked.{units_code, units_rows, method_rows, threads_code, threads_rows, starts}
use Rattle.ls_linker.specs.Linked.{class_size}

-- instructions after others
pub record Adds (old added new : List Instruction) : Type 0 where
  pub is : new ≡ old ++ added

-- the code before any unit
abbrev pub first_parts : File → Program → Code
first_parts file program = record {
  instructions = [];
  handlers = [];
  methods = [];
  sizes = map class_size file.classes;
  starts = [];
  names = length program.names;
}

-- units after the code that is there
pub record AddsUnits (old : Code) (units : List CodeUnit) (new : Code) : Type 0 where
  pub instructions : new.instructions ≡ old.instructions ++ units_code (length old.instructions) units
  pub handlers : new.handlers ≡ old.handlers ++ units_rows (length old.instructions) units
  pub methods : new.methods ≡ old.methods ++ method_rows (length old.instructions) units
  pub sizes : new.sizes ≡ old.sizes
  pub starts : new.starts ≡ old.starts
  pub names : new.names ≡ old.names

-- the code of a thread's calls after other code, and its row
pub record PushesThread (classes : List Class) (old : List Instruction) (calls : List ProgramCall)
    (new : List Instruction) (row : HandlerRow) : Type 0 where
  pub is : new ≡ old ++ calls_code classes 1 calls
  pub row_is : row ≡ thread_row (length old) (length (calls_code classes 1 calls))

-- threads after the code that is there
pub record AddsThreads (classes : List Class) (old : Code) (threads : List ThreadProgram) (new : Code) : Type 0 where
  pub instructions : new.instructions ≡ old.instructions ++ threads_code classes threads
  pub handlers : new.handlers ≡ old.handlers ++ threads_rows classes (length old.instructions) threads
  pub methods : new.methods ≡ old.methods
  pub sizes : new.sizes ≡ old.sizes
  pub starts : new.starts ≡ old.starts ++ starts classes (length old.instructions) threads
  pub names : new.names ≡ old.names
