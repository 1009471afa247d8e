-- Why some tokens begin no program of a file. Each fault is of the tokens before a place, and of the tokens from that
-- place on up to where the fault shows.
use Rattle.std.specs.Prelude.{◌≡◌, ◌≢◌, ℕ, ◌<◌, ◌≤◌, List, [], ◌∷◌, ◌++◌, length, Some, None, codes, slice_get}
use Rattle.ls_checked.specs.Limits.{most_threads, most_calls}
use Rattle.ls_lexer.specs.Lexemes.{Lexeme, Named, Reserved, Marked}
use Rattle.ls_lexer.specs.declared.word.Word.TheVariants as words
use Rattle.ls_lexer.specs.declared.sign.Sign.TheVariants as signs
use Rattle.ls_events.specs.declared.value.Value.{Value}
use Rattle.ls_events.specs.declared.value.ValueType.{ValueType}
use Rattle.ls_checked.specs.CheckedProgram.{SetupName, ThreadProgram, Program}
use Rattle.ls_types_elaboration.specs.Trees.{Text}
use Rattle.ls_types_elaboration.specs.Known.{MethodSign, number_of, method_named, methods_in, parameters_in}
use Rattle.ls_types_elaboration.specs.Elaboration.{ElaboratedFile}
use Rattle.ls_types_programs.specs.Spelled.{Argument, Arguments, Spells}
use Rattle.ls_types_programs.specs.Programs.{AreFor, type_of, IsPlain, IsNewName, IsProgramOf}

-- the tokens, with the end of a block after them, are the program
pub record IsBefore (o : ElaboratedFile) (p : Program) (ks : List Lexeme) : Type 0 where
  pub spelled : Spells p (ks ++ Marked signs.CloseBrace ∷ [])
  pub program : IsProgramOf o p

-- the tokens are the program
pub record AreWhole (o : ElaboratedFile) (p : Program) (ks : List Lexeme) : Type 0 where
  pub spelled : Spells p ks
  pub program : IsProgramOf o p

-- the tokens are the beginning of some program, of whichever file
abbrev pub GoesOn : List Lexeme → Type 0
GoesOn ks = (p : Program) × (more : List Lexeme) × Spells p (ks ++ more)

-- The first token with which the tokens begin no program. Or a making in a thread, or of a name that is given already.
-- Or a thread that is named `all`, or as another thread.
pub data IsBad (o : ElaboratedFile) : List Lexeme → List Lexeme → Type 0 where
  Form : {ks : List Lexeme} (k : Lexeme) → GoesOn ks → (GoesOn (ks ++ k ∷ []) → ⊥) → IsBad o ks (k ∷ [])
  MadeInThread : {ks : List Lexeme} (p : Program) (name : Text) → IsBefore o p ks → 1 < length p.threads
      → IsBad o ks (Named name ∷ Marked signs.Assign ∷ [])
  NameTwice : {ks : List Lexeme} (p : Program) (n : ℕ) (s : SetupName) → IsBefore o p ks → slice_get p.names n ≡ Some s
      → IsBad o ks (Named s.name ∷ Marked signs.Assign ∷ [])
  NamedAll : {ks : List Lexeme} (p : Program) →
      AreWhole o p ks →
      IsBad o (ks ++ Named (codes "thread") ∷ []) (Named (codes "all") ∷ [])
  ThreadTwice : {ks : List Lexeme} (p : Program) (n : ℕ) (t : ThreadProgram) →
      AreWhole o p ks →
      slice_get p.threads n ≡ Some t
      → IsBad o (ks ++ Named (codes "thread") ∷ []) (Named t.name ∷ [])

-- The beginning of a call, up to its class or method, which exists, and the types of its parameters.
pub data IsCallee (o : ElaboratedFile) (p : Program) : List Lexeme → Text → List ValueType → Type 0 where
  Class : (name class : Text) (c : ℕ) → length p.threads ≡ 1 → IsNewName p.names name → number_of o.names class ≡ Some c
      → IsCallee o p (Named name ∷ Marked signs.Assign ∷ Reserved words.New ∷ []) class
      (parameters_in (slice_get o.signs c))
  Method : (n : ℕ) (s : SetupName) (method : Text) (m : MethodSign) → slice_get p.names n ≡ Some s
      → method_named (methods_in (slice_get o.signs s.class)) method ≡ Some m → IsPlain m.result
      → IsCallee o p (Named s.name ∷ Marked signs.Dot ∷ []) method m.parameters

-- the tokens, with `)` after them, are the arguments
abbrev pub AreBeforeParen : List Value → List Lexeme → Type 0
AreBeforeParen vs ks = Arguments vs (ks ++ Marked signs.CloseParen ∷ []) []

-- A class, setup name or method that doesn't exist. Or too few or too many arguments; the place is then that of the
-- class or method. Or the first argument of another type than its parameter.
pub data IsUnknown (o : ElaboratedFile) : List Lexeme → List Lexeme → Type 0 where
  NoClass : {ks : List Lexeme} (p : Program) (name class : Text) →
      IsBefore o p ks →
      length p.threads ≡ 1 →
      IsNewName p.names name
      → number_of o.names class ≡ None
      → IsUnknown o (ks ++ Named name ∷ Marked signs.Assign ∷ Reserved words.New ∷ []) (Named class ∷ [])
  NoName : {ks : List Lexeme} (p : Program) (name : Text) → IsBefore o p ks → IsNewName p.names name
      → IsUnknown o ks (Named name ∷ Marked signs.Dot ∷ [])
  NoMethod : {ks : List Lexeme} (p : Program) (n : ℕ) (s : SetupName) (method : Text) →
      IsBefore o p ks →
      slice_get p.names n ≡ Some s
      → method_named (methods_in (slice_get o.signs s.class)) method ≡ None
      → IsUnknown o (ks ++ Named s.name ∷ Marked signs.Dot ∷ []) (Named method ∷ [])
  TooFew : {ks front js : List Lexeme} (p : Program) (callee : Text) (types : List ValueType) (vs : List Value) →
      IsBefore o p ks
      → IsCallee o p front callee types → Arguments vs js [] → length vs < length types
      → IsUnknown o (ks ++ front) (Named callee ∷ Marked signs.OpenParen ∷ js)
  TooMany : {ks front js : List Lexeme} (p : Program) (callee : Text) (types : List ValueType) (vs : List Value) →
      IsBefore o p ks
      → IsCallee o p front callee types → AreBeforeParen vs js → length types < length vs
      → IsUnknown o (ks ++ front) (Named callee ∷ Marked signs.OpenParen ∷ js)
  WrongType : {ks front : List Lexeme} (js ls : List Lexeme) (p : Program) (callee : Text)
      (before types : List ValueType) (t : ValueType) (vs : List Value) (v : Value)
      → IsBefore o p ks → IsCallee o p front callee (before ++ t ∷ types) → AreBeforeParen (vs ++ v ∷ []) (js ++ ls) →
      Argument v ls []
      → AreFor before vs → type_of v ≢ Some t
      → IsUnknown o (ks ++ front ++ Named callee ∷ Marked signs.OpenParen ∷ js) ls

-- a method that answers a reference
pub data IsReference (o : ElaboratedFile) : List Lexeme → List Lexeme → Type 0 where
  Answers : {ks : List Lexeme} (p : Program) (n : ℕ) (s : SetupName) (method : Text) (m : MethodSign) →
      IsBefore o p ks →
      slice_get p.names n ≡ Some s
      → method_named (methods_in (slice_get o.signs s.class)) method ≡ Some m → (IsPlain m.result → ⊥)
      → IsReference o (ks ++ Named s.name ∷ Marked signs.Dot ∷ []) (Named method ∷ [])

-- a thread, if the others have reached the limit of threads; or a call, if its thread has reached the limit of calls
pub data IsPast (o : ElaboratedFile) : List Lexeme → Type 0 where
  Threads : {ks : List Lexeme} (p : Program) →
      AreWhole o p ks →
      most_threads < length p.threads →
      IsPast o (ks ++ Named (codes "thread") ∷ [])
  Calls : {ks front js : List Lexeme} (p : Program) (ts : List ThreadProgram) (t : ThreadProgram) (callee : Text)
      (types : List ValueType) (vs : List Value)
      → IsBefore o p ks → p.threads ≡ ts ++ t ∷ [] → most_calls ≤ length t.calls → IsCallee o p front callee types →
      Arguments vs js [] → AreFor types vs
      → IsPast o (ks ++ front ++ Named callee ∷ Marked signs.OpenParen ∷ js ++ Marked signs.Semicolon ∷ [])

-- the tokens are not the beginning of any program of the file
abbrev pub GoesNowhere : ElaboratedFile → List Lexeme → Type 0
GoesNowhere o ks = (p : Program) (more : List Lexeme) → Spells p (ks ++ more) → IsProgramOf o p → ⊥

abbrev pub FaultsStand : Type 0
FaultsStand =
    (o : ElaboratedFile) (ks js : List Lexeme) → (IsBad o ks js → GoesNowhere o (ks ++ js)) ×
    (IsUnknown o ks js → GoesNowhere o (ks ++ js))
    × (IsReference o ks js → GoesNowhere o (ks ++ js)) × (IsPast o ks → GoesNowhere o ks)
