-- Thread programs: `setup { s = new C(1); s.m(true); } thread A { s.m(false); }`, token by token.
use Rattle.std.specs.Prelude.{ℕ, nat_lt, Bool, true, false, not, ◌&&◌, ◌||◌, List, [], ◌∷◌, ◌++◌, length, Option, Some}
use Rattle.std.specs.Prelude.{None, codes, bytes_eq, if◌then◌else◌, slice_get, is_some, nat_le}
use Rattle.ls_checked.specs.Limits.{most_threads, most_calls}
use denote.Enum.Bare.{sameb}
use Rattle.ls_lexer.specs.Places.{text_limit}
use Rattle.ls_lexer.specs.declared.sign.Sign.{Sign}
use Rattle.ls_lexer.specs.declared.sign.Sign.TheVariants as signs
use Rattle.ls_lexer.specs.contracts.sign.Sign.{the_type as sign_type}
use Rattle.ls_lexer.specs.declared.word.Word.{Word}
use Rattle.ls_lexer.specs.declared.word.Word.TheVariants as words
use Rattle.ls_lexer.specs.contracts.word.Word.{the_type as word_type}
use Rattle.ls_lexer.specs.Lexemes.{Lexeme, Named, Numeral, Reserved, Marked}
use Rattle.ls_lexer.specs.Tokens.{tokens_of}
use Rattle.ls_events.specs.declared.value.Value.{Value}
use Rattle.ls_events.specs.declared.value.Value.TheVariants as values
use Rattle.ls_checked.specs.CheckedProgram.{SetupName, ProgramCall, ThreadProgram, Program}
use Rattle.ls_types_elaboration.specs.Trees.{Text}
use Rattle.ls_types_elaboration.specs.Known.{number_of}
use Rattle.ls_types_elaboration.specs.Elaboration.{ElaboratedFile}
use Rattle.ls_types_programs.specs.ProgramCalls.{Pending, setup_named, maker, called_on, with_argument, is_full}
use Rattle.ls_types_programs.specs.ProgramCalls.{plain_number, minus_number, call_of, names_after}

-- the most bytes of a text
abbrev pub most_bytes : ℕ
most_bytes = text_limit

-- what is read so far, and what comes next
pub data Stage : Type 0 where
  AtSetup : Stage
  AtBlock : Stage
  AtCall : Stage
  AfterName : (name : Text) → Stage
  AfterAssign : (name : Text) → Stage
  AfterNew : (name : Text) → Stage
  AfterDot : (name : ℕ) → Stage
  AtArguments : (call : Pending) → Stage
  AtFirst : (call : Pending) → Stage
  AtArgument : (call : Pending) → Stage
  AfterMinus : (call : Pending) → Stage
  AfterArgument : (call : Pending) → Stage
  AtSemicolon : (call : Pending) → Stage
  AtThread : Stage
  AtThreadName : Stage

-- the setup names, the threads that are read whole, and the name and calls of the thread that is being read
pub record Parts : Type 0 where
  pub names : List SetupName
  pub threads : List ThreadProgram
  pub name : Text
  pub calls : List ProgramCall

pub record Reading : Type 0 where
  pub stage : Stage
  pub parts : Parts

abbrev pub at : Parts → Stage → Reading
at r stage = record { stage = stage; parts = r }

abbrev pub is_sign : Sign → Lexeme → Bool
is_sign sign (Named text) = false
is_sign sign (Numeral text) = false
is_sign sign (Reserved word) = false
is_sign sign (Marked s) = sameb sign_type s sign

abbrev pub is_word : Word → Lexeme → Bool
is_word word (Named text) = false
is_word word (Numeral text) = false
is_word word (Reserved w) = sameb word_type w word
is_word word (Marked sign) = false

abbrev pub name_in : Lexeme → Option Text
name_in (Named text) = Some text
name_in (Numeral text) = None
name_in (Reserved word) = None
name_in (Marked sign) = None

abbrev pub number_in : Lexeme → Option Text
number_in (Named text) = None
number_in (Numeral text) = Some text
number_in (Reserved word) = None
number_in (Marked sign) = None

abbrev pub when : Bool → Reading → Option Reading
when b r = if b then Some r else None

abbrev pub with_call : Parts → (Pending → Stage) → Option Pending → Option Reading
with_call r stage None = None
with_call r stage (Some p) = Some (at r (stage p))

-- whether a word is this text
abbrev pub is_text : Text → Option Text → Bool
is_text text None = false
is_text text (Some t) = bytes_eq t text

-- a block's end
abbrev pub closed : Parts → Parts
closed r = record {
  names = r.names;
  threads = r.threads ++ record { name = r.name; calls = r.calls } ∷ [];
  name = [];
  calls = [];
}

abbrev pub at_call : Parts → Lexeme → Option Text → Option Reading
at_call r k None = when (is_sign signs.CloseBrace k) (at (closed r) AtThread)
at_call r k (Some name) = Some (at r (AfterName name))

-- `name = ..` gives a new name, in the setup alone; `name.` uses a name that is given
abbrev pub is_new_name : Parts → Text → Bool
is_new_name r name = nat_lt (length r.threads) 1 && not (is_some (setup_named r.names name))

abbrev pub used : Parts → Option ℕ → Option Reading
used r None = None
used r (Some n) = Some (at r (AfterDot n))

abbrev pub after_name : Parts → Text → Lexeme → Option Reading
after_name r name k =
    if is_sign signs.Assign k then when (is_new_name r name) (at r (AfterAssign name))
    else if is_sign signs.Dot k then used r (setup_named r.names name)
    else None

abbrev pub after_new : ElaboratedFile → Parts → Text → Option Text → Option Reading
after_new o r name None = None
after_new o r name (Some class) = with_call r AtArguments (maker o name class (number_of o.names class))

abbrev pub after_dot : ElaboratedFile → Parts → ℕ → Option Text → Option Reading
after_dot o r n None = None
after_dot o r n (Some method) = with_call r AtArguments (called_on o n (slice_get r.names n) method)

-- an argument that is a number
abbrev pub numbered : Parts → Pending → Option Value → Option Reading
numbered r p None = None
numbered r p (Some v) = with_call r AfterArgument (with_argument p v)

abbrev pub argument : Parts → Pending → Lexeme → Option Text → Option Reading
argument r p k (Some digits) = numbered r p (plain_number digits)
argument r p k None =
    if is_word words.True k then with_call r AfterArgument (with_argument p (values.Boolean true))
    else if is_word words.False k then with_call r AfterArgument (with_argument p (values.Boolean false))
    else when (is_sign signs.Minus k) (at r (AfterMinus p))

abbrev pub after_minus : Parts → Pending → Option Text → Option Reading
after_minus r p None = None
after_minus r p (Some digits) = with_call r AfterArgument (with_argument p (minus_number digits))

abbrev pub arguments_end : Parts → Pending → Option Reading
arguments_end r p = when (is_full p) (at r (AtSemicolon p))

abbrev pub at_first : Parts → Pending → Lexeme → Option Reading
at_first r p k = if is_sign signs.CloseParen k then arguments_end r p else argument r p k (number_in k)

abbrev pub after_argument : Parts → Pending → Lexeme → Option Reading
after_argument r p k =
    if is_sign signs.CloseParen k then arguments_end r p
    else when (is_sign signs.Comma k) (at r (AtArgument p))

-- one more call
abbrev pub with_finished : Parts → Pending → Parts
with_finished r p = record {
  names = names_after r.names p.callee;
  threads = r.threads;
  name = r.name;
  calls = r.calls ++ call_of (length r.names) p ∷ [];
}

abbrev pub at_semicolon : Parts → Pending → Lexeme → Option Reading
at_semicolon r p k =
    when (is_sign signs.Semicolon k && nat_lt (length r.calls) most_calls) (at (with_finished r p) AtCall)

abbrev pub at_thread : Parts → Lexeme → Option Reading
at_thread r k = when (is_text (codes "thread") (name_in k) && nat_le (length r.threads) most_threads)
    (at r AtThreadName)

-- whether a thread has the name; the setup is among the threads
abbrev pub thread_named : List ThreadProgram → Text → Bool
thread_named [] name = false
thread_named (t ∷ ts) name = bytes_eq t.name name || thread_named ts name

abbrev pub named : Parts → Text → Parts
named r name = record { names = r.names; threads = r.threads; name = name; calls = [] }

abbrev pub at_thread_name : Parts → Option Text → Option Reading
at_thread_name r None = None
at_thread_name r (Some name) =
    when (not (bytes_eq name (codes "all")) && not (thread_named r.threads name)) (at (named r name) AtBlock)

abbrev pub stepped : ElaboratedFile → Parts → Stage → Lexeme → Option Reading
stepped o r AtSetup k = when (is_text (codes "setup") (name_in k)) (at r AtBlock)
stepped o r AtBlock k = when (is_sign signs.OpenBrace k) (at r AtCall)
stepped o r AtCall k = at_call r k (name_in k)
stepped o r (AfterName name) k = after_name r name k
stepped o r (AfterAssign name) k = when (is_word words.New k) (at r (AfterNew name))
stepped o r (AfterNew name) k = after_new o r name (name_in k)
stepped o r (AfterDot n) k = after_dot o r n (name_in k)
stepped o r (AtArguments p) k = when (is_sign signs.OpenParen k) (at r (AtFirst p))
stepped o r (AtFirst p) k = at_first r p k
stepped o r (AtArgument p) k = argument r p k (number_in k)
stepped o r (AfterMinus p) k = after_minus r p (number_in k)
stepped o r (AfterArgument p) k = after_argument r p k
stepped o r (AtSemicolon p) k = at_semicolon r p k
stepped o r AtThread k = at_thread r k
stepped o r AtThreadName k = at_thread_name r (name_in k)

abbrev pub after : ElaboratedFile → Option Reading → List Lexeme → Option Reading
after o None ks = None
after o (Some r) [] = Some r
after o (Some r) (k ∷ ks) = after o (stepped o r.parts r.stage k) ks

-- a program ends after a block
abbrev pub ended : Stage → Bool
ended AtThread = true
ended _ = false

abbrev pub whole : Option Reading → Option Program
whole None = None
whole (Some r) = if ended r.stage then Some (record { names = r.parts.names; threads = r.parts.threads }) else None

abbrev pub beginning : Reading
beginning = at (record { names = []; threads = []; name = codes "setup"; calls = [] }) AtSetup

abbrev pub program_of_tokens : ElaboratedFile → Option (List Lexeme) → Option Program
program_of_tokens o None = None
program_of_tokens o (Some ks) = whole (after o (Some beginning) ks)

-- the program that a text is for a file, if it is one
abbrev pub program_of : ElaboratedFile → Text → Option Program
program_of o text = if nat_le (length text) most_bytes then program_of_tokens o (tokens_of text) else None
