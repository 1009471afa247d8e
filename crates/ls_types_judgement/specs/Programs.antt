-- Typed thread programs: what each call of each thread has in the file and among the setup names.
use Rattle.std.specs.Prelude.{◌≡◌, ℕ, ◌<◌, List, [], ◌∷◌, length, Option, Some, None, slice_get, FitsSigned}
use mir.Syntax.{w32}
use Rattle.ls_events.specs.declared.value.Value.{Value}
use Rattle.ls_events.specs.declared.value.Value.TheVariants as values
use Rattle.ls_events.specs.declared.value.ValueType.{ValueType}
use Rattle.ls_events.specs.declared.value.ValueType.TheVariants as types
use Rattle.ls_checked.specs.CheckedTree.{Method, File}
use Rattle.ls_checked.specs.CheckedProgram.{Program, SetupName, ThreadProgram, ProgramCall, Making, Calling}
use Rattle.ls_meaning.specs.Expressions.{constructor_of}
use Rattle.ls_types_judgement.specs.Typing.{parameters_of}

-- an argument is an int of 32 bits or a boolean, as its parameter is declared; null and objects are no arguments
abbrev pub IsArgument : ValueType → Value → Type 0
IsArgument types.Int (values.Int z) = FitsSigned w32 z
IsArgument types.Boolean (values.Boolean b) = Unit {0}
IsArgument _ _ = ⊥

-- as many arguments as parameters, each fit for its parameter
abbrev pub AreArguments : List ValueType → List Value → Type 0
AreArguments [] [] = Unit {0}
AreArguments (t ∷ ts) (v ∷ vs) = IsArgument t v × AreArguments ts vs
AreArguments _ _ = ⊥

-- a thread calls only what answers nothing, an int or a boolean
abbrev pub IsPlainResult : Option ValueType → Type 0
IsPlainResult None = Unit {0}
IsPlainResult (Some types.Int) = Unit {0}
IsPlainResult (Some types.Boolean) = Unit {0}
IsPlainResult (Some _) = ⊥

-- `name = new C(values)`
pub record IsTypedMaking (file : File) (program : Program) (name class : ℕ) (arguments : List Value) : Type 0 where
  -- the class exists
  pub there : class < length file.classes
  -- with its constructor, which is one of that class
  pub constructor : Method
  pub found : slice_get file.methods (constructor_of file.classes class) ≡ Some constructor
  pub own : constructor.class ≡ class
  -- the arguments are the constructor's
  pub fit : AreArguments (parameters_of constructor) arguments
  -- the name is a setup name, for an object of that class
  pub setup_name : SetupName
  pub named : slice_get program.names name ≡ Some setup_name
  pub holds : setup_name.class ≡ class

-- `name.method(values)`, where `result` is what the program takes the call to answer
pub record IsTypedCalling (file : File) (program : Program) (name method : ℕ) (result : Option ValueType)
    (arguments : List Value) : Type 0 where
  -- the name is a setup name
  pub setup_name : SetupName
  pub named : slice_get program.names name ≡ Some setup_name
  -- the method exists, and belongs to the class of the name's object
  pub called : Method
  pub found : slice_get file.methods method ≡ Some called
  pub own : called.class ≡ setup_name.class
  -- the call answers what the method answers, which is nothing, an int or a boolean
  pub answers : called.result ≡ result
  pub plain : IsPlainResult result
  -- the arguments are the method's
  pub fit : AreArguments (parameters_of called) arguments

abbrev pub IsTypedCall : File → Program → ProgramCall → Type 0
IsTypedCall file program (Making name class text arguments) = IsTypedMaking file program name class arguments
IsTypedCall file program (Calling name method text result arguments) = IsTypedCalling file program name method result
    arguments

-- each call of each thread, the setup too
abbrev pub IsTypedProgram : File → Program → Type 0
IsTypedProgram file program =
    (number : ℕ) (thread : ThreadProgram) (n : ℕ) (call : ProgramCall) →
    slice_get program.threads number ≡ Some thread → slice_get thread.calls n ≡ Some call →
    IsTypedCall file program call
