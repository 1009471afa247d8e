-- The rest of the tokens, in each stage of the reading, if the reading ends with these parts.
use Rattle.std.proofs.Common.{◌≡◌, ℕ, suc, ◌<◌, ◌≤◌, refl, Bool, true, false, ◌⊎◌, inl, inr, List, [], ◌∷◌, ◌++◌}
use Rattle.std.proofs.Common.{length, Option, Some, None, nat_lt, if◌then◌else◌, codes}
use Rattle.std.specs.Prelude.{slice_get}
use Rattle.ls_checked.specs.Limits.{most_threads}
use Rattle.ls_lexer.specs.declared.sign.Sign.TheVariants as signs
use Rattle.ls_lexer.specs.declared.word.Word.TheVariants as words
use Rattle.ls_lexer.specs.Lexemes.{Lexeme, Named, Reserved, Marked}
use Rattle.ls_events.specs.declared.value.Value.{Value}
use Rattle.ls_checked.specs.CheckedProgram.{SetupName, ProgramCall, ThreadProgram}
use Rattle.ls_types_elaboration.specs.Trees.{Text}
use Rattle.ls_types_elaboration.specs.Known.{MethodSign, parameters_in}
use Rattle.ls_types_elaboration.specs.Elaboration.{ElaboratedFile}
use Rattle.ls_types_programs.specs.ProgramCalls.{Maker, Method, Pending}
use Rattle.ls_types_programs.specs.ThreadPrograms
use Rattle.ls_types_programs.specs.ThreadPrograms.{Stage, Parts, Reading, when, is_new_name, with_finished, after}
use Rattle.ls_types_programs.specs.Spelled as spelled
use Rattle.ls_types_programs.specs.Spelled.{Argument, Others, Arguments, Threads}
use Rattle.ls_types_programs.specs.Programs.{AreFor, AreCallsOf, AreThreadsOf}
use Rattle.ls_types_programs.proofs.Pieces.{Front}

-- ---- what a step says if it is taken

abbrev pub Then : (Parts → Stage → Type 0) → Option Reading → Type 0
Then P None = ⊥
Then P (Some q) = P q.parts q.stage

pub when_then : (P : Parts → Stage → Type 0) (b : Bool) (q : Reading) → Then P (when b q) → (b ≡ true) × P q.parts
    q.stage
when_then P true q h = (refl, h)
when_then P false q h = absurd h

either_then : (P : Parts → Stage → Type 0) (b : Bool) (x y : Option Reading) →
    Then P (if b then x else y) →
    ((b ≡ true) × Then P x) ⊎ ((b ≡ false) × Then P y)
either_then P true x y h = inl (refl, h)
either_then P false x y h = inr (refl, h)

-- ---- the rest of the tokens, if the reading ends with the parts f

pub record RestThreads (o : ElaboratedFile) (f : Parts) (before : List ThreadProgram) (ks : List Lexeme) : Type 0 where
  pub ts : List ThreadProgram
  pub spelled : Threads f.names ts ks
  pub parts : f.threads ≡ before ++ ts
  pub are : AreThreadsOf o f.names before ts
  pub few : length before ≤ suc most_threads → length f.threads ≤ suc most_threads

-- whether no block has ended, so that calls may give names
abbrev pub gives : Parts → Bool
gives r = nat_lt (length r.threads) 1

-- the other calls of a block, and the blocks after it
pub record RestCalls (o : ElaboratedFile) (f r : Parts) (ks : List Lexeme) : Type 0 where
  pub cs : List ProgramCall
  pub rest : List Lexeme
  pub spelled : spelled.Calls (gives r) f.names cs ks rest
  pub are : AreCallsOf o (gives r) r.names cs f.names
  pub all : List ProgramCall
  pub joined : all ≡ r.calls ++ cs
  pub few : length r.calls ≤ 256 → length all ≤ 256
  pub after : RestThreads o f (r.threads ++ record { name = r.name; calls = all } ∷ []) rest

-- a call that is being read, with these arguments
abbrev pub with_values : Pending → List Value → Pending
with_values p vs = record { callee = p.callee; types = p.types; values = vs }

pub record RestSemicolon (o : ElaboratedFile) (f r : Parts) (p : Pending) (ks : List Lexeme) : Type 0 where
  pub rest : List Lexeme
  pub tokens : ks ≡ Marked signs.Semicolon ∷ rest
  pub room : length r.calls < 256
  pub after : RestCalls o f (with_finished r p) rest

-- arguments of one of these kinds
pub record RestValues (Kind : List Value → List Lexeme → List Lexeme → Type 0) (o : ElaboratedFile) (f r : Parts)
    (p : Pending)
    (ks : List Lexeme) : Type 0 where
  pub vs : List Value
  pub rest : List Lexeme
  pub spelled : Kind vs ks (Marked signs.Semicolon ∷ rest)
  pub all : List Value
  pub joined : all ≡ p.values ++ vs
  pub fit : Front p.types p.values → AreFor p.types all
  pub room : length r.calls < 256
  pub after : RestCalls o f (with_finished r (with_values p all)) rest

-- an argument, and others
pub data Argued : List Value → List Lexeme → List Lexeme → Type 0 where
  Argues : {v : Value} {vs : List Value} {ks ls rest : List Lexeme} →
      Argument v ks ls →
      Others vs ls rest →
      Argued (v ∷ vs) ks rest

-- this token, and then the rest
pub record RestAfter (k : Lexeme) (P : List Lexeme → Type 0) (ks : List Lexeme) : Type 0 where
  pub rest : List Lexeme
  pub tokens : ks ≡ k ∷ rest
  pub after : P rest

-- the rest of the tokens in a stage
abbrev pub Rest : ElaboratedFile → Parts → Parts → Stage → List Lexeme → Type 0
Rest o f r ThreadPrograms.AtSetup ks = RestAfter (Named (codes "setup"))
    (RestAfter (Marked signs.OpenBrace) (RestCalls o f r)) ks
Rest o f r ThreadPrograms.AtBlock ks = RestAfter (Marked signs.OpenBrace) (RestCalls o f r) ks
Rest o f r ThreadPrograms.AtCall ks = RestCalls o f r ks
Rest o f r (ThreadPrograms.AfterName name) ks = RestCalls o f r (Named name ∷ ks)
Rest o f r (ThreadPrograms.AfterAssign name) ks = is_new_name r name ≡ true →
    RestCalls o f r (Named name ∷ Marked signs.Assign ∷ ks)
Rest o f r (ThreadPrograms.AfterNew name) ks = is_new_name r name ≡ true →
    RestCalls o f r (Named name ∷ Marked signs.Assign ∷ Reserved words.New ∷ ks)
Rest o f r (ThreadPrograms.AfterDot n) ks = (s : SetupName) → slice_get r.names n ≡ Some s →
    RestCalls o f r (Named s.name ∷ Marked signs.Dot ∷ ks)
Rest o f r (ThreadPrograms.AtArguments p) ks = RestAfter (Marked signs.OpenParen) (RestValues Arguments o f r p) ks
Rest o f r (ThreadPrograms.AtFirst p) ks = RestValues Arguments o f r p ks
Rest o f r (ThreadPrograms.AtArgument p) ks = RestValues Argued o f r p ks
Rest o f r (ThreadPrograms.AfterMinus p) ks = RestValues Argued o f r p (Marked signs.Minus ∷ ks)
Rest o f r (ThreadPrograms.AfterArgument p) ks = RestValues Others o f r p ks
Rest o f r (ThreadPrograms.AtSemicolon p) ks = RestSemicolon o f r p ks
Rest o f r ThreadPrograms.AtThread ks = 1 ≤ length r.threads → (r.names ≡ f.names) × RestThreads o f r.threads ks
Rest o f r ThreadPrograms.AtThreadName ks = length r.threads ≤ most_threads → 1 ≤ length r.threads →
    (r.names ≡ f.names) × RestThreads o f r.threads (Named (codes "thread") ∷ ks)

-- a call of a method, before its arguments
abbrev pub method_pending : ℕ → Text → MethodSign → Pending
method_pending n name m = record { callee = Method n m.number name m.result; types = m.parameters; values = [] }

-- a making of an object, before its arguments
abbrev pub maker_pending : ElaboratedFile → Text → ℕ → Text → Pending
maker_pending o name c class_name = record {
  callee = Maker name c class_name;
  types = parameters_in (slice_get o.signs c);
  values = [];
}
