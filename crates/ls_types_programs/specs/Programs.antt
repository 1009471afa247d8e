-- Which programs are programs of a file.
use Rattle.std.specs.Prelude.{◌≡◌, ◌≢◌, ℕ, ◌≤◌, Bool, true, false, List, [], ◌∷◌, ◌++◌, length, map, Option, Some, None}
use Rattle.std.specs.Prelude.{codes, slice_get}
use Rattle.ls_checked.specs.Limits.{most_threads, most_calls}
use Rattle.ls_lexer.specs.Lexemes.{Lexeme}
use Rattle.ls_lexer.specs.Tokens.{tokens_of}
use Rattle.ls_events.specs.declared.value.Value.{Value}
use Rattle.ls_events.specs.declared.value.Value.TheVariants as values
use Rattle.ls_events.specs.declared.value.ValueType.{ValueType}
use Rattle.ls_events.specs.declared.value.ValueType.TheVariants as types
use Rattle.ls_checked.specs.CheckedProgram.{SetupName, ProgramCall, Making, Calling, ThreadProgram, Program}
use Rattle.ls_types_elaboration.specs.Trees.{Text}
use Rattle.ls_types_elaboration.specs.Known.{MethodSign, number_of, method_named, methods_in, parameters_in}
use Rattle.ls_types_elaboration.specs.Elaboration.{ElaboratedFile}
use Rattle.ls_types_programs.specs.Spelled.{Spells}

-- an argument is an int or a boolean
abbrev pub type_of : Value → Option ValueType
type_of (values.Int z) = Some types.Int
type_of (values.Boolean b) = Some types.Boolean
type_of (values.Reference n) = None
type_of (values.Pair n m) = None

-- as many arguments as parameters, each of the type of its parameter
abbrev pub AreFor : List ValueType → List Value → Type 0
AreFor parameters arguments = map type_of arguments ≡ map Some parameters

-- an int, a boolean or nothing
abbrev pub IsPlain : Option ValueType → Type 0
IsPlain None = Unit {0}
IsPlain (Some types.Int) = Unit {0}
IsPlain (Some types.Boolean) = Unit {0}
IsPlain (Some _) = ⊥

-- none of the setup names, or of the threads, has this name
abbrev pub IsNewName : List SetupName → Text → Type 0
IsNewName [] name = Unit {0}
IsNewName (s ∷ ss) name = (s.name ≢ name) × IsNewName ss name

abbrev pub IsNewThread : List ThreadProgram → Text → Type 0
IsNewThread [] name = Unit {0}
IsNewThread (t ∷ ts) name = (t.name ≢ name) × IsNewThread ts name

-- The calls of a block. The first list has the setup names that are given before it, the last list those after it. A
-- making is in the setup alone. It gives a new name, and makes an object of a class of the file. A call is on a name
-- that is given. Its method is in the class of that object, and answers an int, a boolean or nothing.
pub data AreCallsOf (o : ElaboratedFile) (in_setup : Bool) : List SetupName → List ProgramCall →
    List SetupName → Type 0 where
  End : {names : List SetupName} → AreCallsOf o in_setup names [] names
  Makes : {names all : List SetupName} {cs : List ProgramCall} (s : SetupName) (class_name : Text) (vs : List Value)
      → in_setup ≡ true → IsNewName names s.name
      → number_of o.names class_name ≡ Some s.class → AreFor (parameters_in (slice_get o.signs s.class)) vs
      → AreCallsOf o in_setup (names ++ s ∷ []) cs all
      → AreCallsOf o in_setup names (Making (length names) s.class class_name vs ∷ cs) all
  Calls : {names all : List SetupName} {cs : List ProgramCall} (n : ℕ) (s : SetupName) (name : Text) (m : MethodSign)
      (vs : List Value)
      → slice_get names n ≡ Some s
      → method_named (methods_in (slice_get o.signs s.class)) name ≡ Some m → IsPlain m.result → AreFor m.parameters vs
      → AreCallsOf o in_setup names cs all
      → AreCallsOf o in_setup names (Calling n m.number name m.result vs ∷ cs) all

-- The threads of the last list come after those of the first list. Each of them has a name of its own, other than
-- `all`, and at most `most_calls` calls. It gives no setup name.
pub data AreThreadsOf (o : ElaboratedFile) (names : List SetupName) : List ThreadProgram →
    List ThreadProgram → Type 0 where
  End : {before : List ThreadProgram} → AreThreadsOf o names before []
  Thread : {before ts : List ThreadProgram} (t : ThreadProgram)
      → t.name ≢ codes "all" → IsNewThread before t.name
      → length t.calls ≤ most_calls → AreCallsOf o false names t.calls names
      → AreThreadsOf o names (before ++ t ∷ []) ts
      → AreThreadsOf o names before (t ∷ ts)

-- The program of a file: thread 0 is named `setup` and gives the setup names. There are at most `most_threads` other
-- threads.
pub record IsProgramOf (o : ElaboratedFile) (p : Program) : Type 0 where
  pub setup : List ProgramCall
  pub threads : List ThreadProgram
  pub parts : p.threads ≡ record { name = codes "setup"; calls = setup } ∷ threads
  pub gives : AreCallsOf o true [] setup p.names
  pub calls : length setup ≤ most_calls
  pub few : length threads ≤ most_threads
  pub others : AreThreadsOf o p.names (record { name = codes "setup"; calls = setup } ∷ []) threads

-- The text is not too long, its tokens spell the program, and the program is one of the file.
pub record IsTextOf (o : ElaboratedFile) (p : Program) (text : Text) : Type 0 where
  pub short : length text ≤ 262144
  pub tokens : List Lexeme
  pub lexed : tokens_of text ≡ Some tokens
  pub spelled : Spells p tokens
  pub program : IsProgramOf o p
