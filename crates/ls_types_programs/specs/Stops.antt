-- Where the reading of tokens stops, and what is answered. The reader's own functions use these definitions;
-- `Refusals` says the same in terms of the grammar.
use Rattle.std.specs.Prelude.{ℕ, List, [], ◌∷◌, Bool, Option, Some, None, codes, if◌then◌else◌, slice_get, length}
use Rattle.ls_lexer.specs.declared.sign.Sign.TheVariants as signs
use Rattle.ls_lexer.specs.declared.word.Word.TheVariants as words
use Rattle.ls_lexer.specs.declared.token.Token.{Token}
use Rattle.ls_lexer.specs.Lexemes.{Lexeme, lexeme_of}
use Rattle.ls_events.specs.declared.value.Value.{Value}
use Rattle.ls_events.specs.declared.value.ValueType.{ValueType}
use Rattle.ls_types_elaboration.specs.Trees.{Text}
use Rattle.ls_types_elaboration.specs.Known.{MethodSign}
use Rattle.ls_types_elaboration.specs.Elaboration.{ElaboratedFile}
use Rattle.ls_types_programs.specs.ProgramCalls.{Pending, method_on, plain_number}
use Rattle.ls_types_programs.specs.ThreadPrograms.{Stage, AtSetup, AtBlock, AtCall, AfterName, AfterAssign, AfterNew}
use Rattle.ls_types_programs.specs.ThreadPrograms.{AfterDot, AtArguments, AtFirst, AtArgument, AfterMinus}
use Rattle.ls_types_programs.specs.ThreadPrograms.{AfterArgument, AtSemicolon, AtThread, AtThreadName, Parts, Reading}
use Rattle.ls_types_programs.specs.ThreadPrograms.{stepped, ended, is_sign, is_word, is_text, name_in, number_in}

-- why a token can't come; if an argument doesn't fit, the type that is wanted, if one is
pub data Why : Type 0 where
  Form : Why
  NameTaken : Why
  NoClass : Why
  NoName : Why
  NoMethod : Why
  Reference : Why
  TooFew : Why
  Unfit : (wanted : Option ValueType) → Why
  ThreadTaken : Why
  ManyThreads : Why
  ManyCalls : Why

abbrev pub why_name : Lexeme → Why
why_name k = if is_sign signs.Assign k then NameTaken else if is_sign signs.Dot k then NoName else Form

abbrev pub why_new : Option Text → Why
why_new None = Form
why_new (Some class) = NoClass

abbrev pub why_method : Option MethodSign → Why
why_method None = NoMethod
why_method (Some m) = Reference

abbrev pub why_dot : ElaboratedFile → Parts → ℕ → Option Text → Why
why_dot o r n None = Form
why_dot o r n (Some method) = why_method (method_on o (slice_get r.names n) method)

abbrev pub why_value : Pending → Why
why_value p = Unfit (slice_get p.types (length p.values))

abbrev pub why_number : Pending → Option Value → Why
why_number p None = Form
why_number p (Some v) = why_value p

abbrev pub why_argument : Pending → Lexeme → Option Text → Why
why_argument p k (Some digits) = why_number p (plain_number digits)
why_argument p k None = if is_word words.True k then why_value p else if is_word words.False k then why_value p else
    Form

abbrev pub why_first : Pending → Lexeme → Why
why_first p k = if is_sign signs.CloseParen k then TooFew else why_argument p k (number_in k)

abbrev pub why_minus : Pending → Option Text → Why
why_minus p None = Form
why_minus p (Some digits) = why_value p

abbrev pub why_after : Lexeme → Why
why_after k = if is_sign signs.CloseParen k then TooFew else Form

abbrev pub why_semicolon : Lexeme → Why
why_semicolon k = if is_sign signs.Semicolon k then ManyCalls else Form

abbrev pub why_thread : Lexeme → Why
why_thread k = if is_text (codes "thread") (name_in k) then ManyThreads else Form

abbrev pub why_thread_name : Option Text → Why
why_thread_name None = Form
why_thread_name (Some name) = ThreadTaken

-- why a token can't come at a stage; this is asked only if it can't
abbrev pub why : ElaboratedFile → Parts → Stage → Lexeme → Why
why o r AtSetup k = Form
why o r AtBlock k = Form
why o r AtCall k = Form
why o r (AfterName name) k = why_name k
why o r (AfterAssign name) k = Form
why o r (AfterNew name) k = why_new (name_in k)
why o r (AfterDot n) k = why_dot o r n (name_in k)
why o r (AtArguments p) k = Form
why o r (AtFirst p) k = why_first p k
why o r (AtArgument p) k = why_argument p k (number_in k)
why o r (AfterMinus p) k = why_minus p (number_in k)
why o r (AfterArgument p) k = why_after k
why o r (AtSemicolon p) k = why_semicolon k
why o r AtThread k = why_thread k
why o r AtThreadName k = why_thread_name (name_in k)

-- The places of the last name of a statement, of the class or method of a call, and of the minus of an argument. A
-- stage that comes after one of these needs its place.
pub record Marks : Type 0 where
  pub name : ℕ
  pub callee : ℕ
  pub minus : Option ℕ

abbrev pub unmarked : Marks
unmarked = record { name = 0; callee = 0; minus = None }

abbrev pub name_mark : ℕ → Marks
name_mark at = record { name = at; callee = 0; minus = None }

abbrev pub callee_mark : ℕ → Marks
callee_mark at = record { name = 0; callee = at; minus = None }

abbrev pub minus_mark : ℕ → ℕ → Marks
minus_mark at minus = record { name = 0; callee = at; minus = Some minus }

-- the marks of the next stage, after a token at this place
abbrev pub marked : Marks → ℕ → Stage → Marks
marked m at (AfterName name) = name_mark at
marked m at (AtArguments p) = callee_mark at
marked m at (AtFirst p) = callee_mark m.callee
marked m at (AtArgument p) = callee_mark m.callee
marked m at (AfterMinus p) = minus_mark m.callee at
marked m at (AfterArgument p) = callee_mark m.callee
marked m at (AtSemicolon p) = callee_mark m.callee
marked m at _ = unmarked

pub data Fault : Type 0 where
  Bad : (at : ℕ) → Fault
  Unknown : (at : ℕ) → Fault
  References : (at : ℕ) → Fault
  Past : Fault

-- the place of an argument: that of its minus, if it has one
abbrev pub argument_at : Option ℕ → ℕ → ℕ
argument_at None at = at
argument_at (Some minus) at = minus

abbrev pub unfit_at : Option ValueType → ℕ → ℕ → ℕ
unfit_at None callee at = callee
unfit_at (Some t) callee at = at

-- the fault that a token gives
abbrev pub fault_for : Marks → ℕ → Why → Fault
fault_for m at Form = Bad at
fault_for m at NameTaken = Bad m.name
fault_for m at NoClass = Unknown at
fault_for m at NoName = Unknown m.name
fault_for m at NoMethod = Unknown at
fault_for m at Reference = References at
fault_for m at TooFew = Unknown m.callee
fault_for m at (Unfit wanted) = Unknown (unfit_at wanted m.callee (argument_at m.minus at))
fault_for m at ThreadTaken = Bad at
fault_for m at ManyThreads = Past
fault_for m at ManyCalls = Past

abbrev pub fault_at_end : ℕ → Bool → Option Fault
fault_at_end end whole = if whole then None else Some (Bad end)

abbrev pub goes_on : Fault → (Reading → Option Fault) → Option Reading → Option Fault
goes_on fault on None = Some fault
goes_on fault on (Some next) = on next

-- the fault of the first token that can't come, or of the end
abbrev pub stops : ElaboratedFile → ℕ → Marks → Reading → List Token → Option Fault
stops o end m q [] = fault_at_end end (ended q.stage)
stops o end m q (t ∷ ts) =
    goes_on (fault_for m t.span.start (why o q.parts q.stage (lexeme_of t.kind)))
    (λ next. stops o end (marked m t.span.start next.stage) next ts)
    (stepped o q.parts q.stage (lexeme_of t.kind))
