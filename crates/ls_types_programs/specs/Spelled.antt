-- Which tokens spell a thread program. For a kind K of phrase, `K vs ks rest` says: the tokens ks are a phrase of vs,
-- and then the rest.
use Rattle.std.specs.Prelude.{◌≡◌, ℕ, ◌<◌, ◌≤◌, pos, neg_ℤ, Bool, true, false, List, [], ◌∷◌, Some, codes, slice_get}
use Rattle.std.specs.Prelude.{Option}
use Rattle.ls_lexer.specs.Lexemes.{Lexeme, Named, Numeral, Reserved, Marked}
use Rattle.ls_lexer.specs.Numbers.{value_of}
use Rattle.ls_lexer.specs.declared.word.Word.TheVariants as words
use Rattle.ls_lexer.specs.declared.sign.Sign.TheVariants as signs
use Rattle.ls_events.specs.declared.value.Value.{Value}
use Rattle.ls_events.specs.declared.value.Value.TheVariants as values
use Rattle.ls_events.specs.declared.value.ValueType.{ValueType}
use Rattle.ls_checked.specs.CheckedProgram.{SetupName, ProgramCall, Making, Calling, ThreadProgram, Program}
use Rattle.ls_types_elaboration.specs.Trees.{Text}

-- `true`, `false`, a number below 2147483648, or `-` and a number of at most 2147483648
pub data Argument : Value → List Lexeme → List Lexeme → Type 0 where
  True : {rest : List Lexeme} → Argument (values.Boolean true) (Reserved words.True ∷ rest) rest
  False : {rest : List Lexeme} → Argument (values.Boolean false) (Reserved words.False ∷ rest) rest
  Number : {rest : List Lexeme} (text : Text) → value_of 0 text < 2147483648
      → Argument (values.Int (pos (value_of 0 text))) (Numeral text ∷ rest) rest
  Minus : {rest : List Lexeme} (text : Text) → value_of 0 text ≤ 2147483648
      → Argument (values.Int (neg_ℤ (pos (value_of 0 text)))) (Marked signs.Minus ∷ Numeral text ∷ rest) rest

-- the arguments after the first, each after a comma, and `)`
pub data Others : List Value → List Lexeme → List Lexeme → Type 0 where
  NoOther : {rest : List Lexeme} → Others [] (Marked signs.CloseParen ∷ rest) rest
  Other : {v : Value} {vs : List Value} {ks ls rest : List Lexeme} → Argument v ks ls → Others vs ls rest
      → Others (v ∷ vs) (Marked signs.Comma ∷ ks) rest

-- the arguments of a call, and `)`
pub data Arguments : List Value → List Lexeme → List Lexeme → Type 0 where
  NoArgument : {rest : List Lexeme} → Arguments [] (Marked signs.CloseParen ∷ rest) rest
  First : {v : Value} {vs : List Value} {ks ls rest : List Lexeme} → Argument v ks ls → Others vs ls rest
      → Arguments (v ∷ vs) ks rest

-- `name = new Class(arguments);`, in the setup alone, or `name.method(arguments);`; the names are among these setup
-- names
pub data Call (in_setup : Bool) (names : List SetupName) : ProgramCall → List Lexeme → List Lexeme → Type 0 where
  New : {n class : ℕ} {class_name : Text} {vs : List Value} {ks rest : List Lexeme} (s : SetupName) →
      in_setup ≡ true →
      slice_get names n ≡ Some s
      → Arguments vs ks (Marked signs.Semicolon ∷ rest)
      → Call in_setup names (Making n class class_name vs)
      (Named s.name ∷ Marked signs.Assign ∷ Reserved words.New ∷ Named class_name ∷ Marked signs.OpenParen ∷ ks) rest
  On : {n method : ℕ} {method_name : Text} {result : Option ValueType} {vs : List Value} {ks rest : List Lexeme}
      (s : SetupName) →
      slice_get names n ≡ Some s
      → Arguments vs ks (Marked signs.Semicolon ∷ rest)
      → Call in_setup names (Calling n method method_name result vs)
      (Named s.name ∷ Marked signs.Dot ∷ Named method_name ∷ Marked signs.OpenParen ∷ ks) rest

-- calls, and `}`
pub data Calls (in_setup : Bool) (names : List SetupName) : List ProgramCall → List Lexeme → List Lexeme → Type 0 where
  NoCall : {rest : List Lexeme} → Calls in_setup names [] (Marked signs.CloseBrace ∷ rest) rest
  More : {c : ProgramCall} {cs : List ProgramCall} {ks ls rest : List Lexeme} →
      Call in_setup names c ks ls →
      Calls in_setup names cs ls rest
      → Calls in_setup names (c ∷ cs) ks rest

-- `thread Name { calls }`, any number of them up to the end
pub data Threads (names : List SetupName) : List ThreadProgram → List Lexeme → Type 0 where
  NoThread : Threads names [] []
  Thread : {t : ThreadProgram} {ts : List ThreadProgram} {ks rest : List Lexeme} →
      Calls false names t.calls ks rest →
      Threads names ts rest
      → Threads names (t ∷ ts) (Named (codes "thread") ∷ Named t.name ∷ Marked signs.OpenBrace ∷ ks)

-- `setup { calls }` and the threads
pub data Spells : Program → List Lexeme → Type 0 where
  Whole : {names : List SetupName} {calls : List ProgramCall} {ts : List ThreadProgram} {ks rest : List Lexeme}
      → Calls true names calls ks rest → Threads names ts rest
      → Spells (record { names = names; threads = record { name = codes "setup"; calls = calls } ∷ ts })
      (Named (codes "setup") ∷ Marked signs.OpenBrace ∷ ks)
