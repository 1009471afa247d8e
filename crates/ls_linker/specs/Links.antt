-- Threads whose numbers and values are operands.
use Rattle.std.specs.Prelude.{◌<◌, ◌≤◌, ◌^◌, suc, List, length}
use Rattle.std.specs.List.{All}
use Rattle.ls_checked.specs.Limits.{most_threads}
use Rattle.ls_events.specs.declared.value.Value.{Value}
use Rattle.ls_events.specs.declared.value.Value.TheVariants as values
use Rattle.ls_checked.specs.CheckedTree.{Class, File}
use Rattle.ls_checked.specs.CheckedProgram.{ProgramCall, Making, Calling, ThreadProgram, Program}
use Rattle.ls_meaning.specs.Expressions.{constructor_of}
use Rattle.ls_emit.specs.Units.{CodeUnit}
use Rattle.ls_linker.specs.Landing.{UnitLands}

-- an int or a boolean, which can be written as an argument of a thread's call
abbrev pub IsWritten : Value → Type 0
IsWritten (values.Int z) = Unit {0}
IsWritten (values.Boolean b) = Unit {0}
IsWritten _ = ⊥

-- each number of a call is below 2 ^ 32
abbrev pub CallLinks : List Class → ProgramCall → Type 0
CallLinks classes (Making name class text values) = (name < 2 ^ 32) × (class < 2 ^ 32) ×
    (constructor_of classes class < 2 ^ 32) × All IsWritten values
CallLinks classes (Calling name method text result values) = (name < 2 ^ 32) × (method < 2 ^ 32) × All IsWritten values

pub record ThreadLinks (classes : List Class) (t : ThreadProgram) : Type 0 where
  pub few : length t.calls ≤ 256
  pub calls : All (CallLinks classes) t.calls

-- units and threads of which one code can be made
pub record Links (file : File) (program : Program) (units : List CodeUnit) : Type 0 where
  pub few : length units ≤ 512
  pub all : All UnitLands units
  pub few_threads : length program.threads ≤ suc most_threads
  pub threads : All (ThreadLinks file.classes) program.threads
