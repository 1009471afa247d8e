-- What the tokens since the beginning of a statement, or of a thread, are in each stage of the reading.
use Rattle.std.proofs.Common.{◌≡◌, ℕ, refl, ◌∙◌, ap, Bool, true, false, List, [], ◌∷◌, ◌++◌, append_assoc, length}
use Rattle.std.proofs.Common.{Option, Some, None, codes}
use Rattle.std.specs.Prelude.{slice_get}
use Rattle.ls_lexer.specs.declared.sign.Sign.TheVariants as signs
use Rattle.ls_lexer.specs.declared.word.Word.TheVariants as words
use Rattle.ls_lexer.specs.declared.token.Token.{Token}
use Rattle.ls_lexer.specs.Lexemes.{Lexeme, Named, Reserved, Marked, lexeme_of, lexemes}
use Rattle.ls_events.specs.declared.value.Value.{Value}
use Rattle.ls_checked.specs.CheckedProgram.{SetupName, Program}
use Rattle.ls_types_elaboration.specs.Trees.{Text}
use Rattle.ls_types_elaboration.specs.Elaboration.{ElaboratedFile}
use Rattle.ls_types_programs.specs.ProgramCalls.{Pending, fits, is_full}
use Rattle.ls_types_programs.specs.ThreadPrograms
use Rattle.ls_types_programs.specs.ThreadPrograms.{Stage, Parts, Reading, at, when, is_new_name, named, after}
use Rattle.ls_types_programs.specs.ThreadPrograms.{beginning}
use Rattle.ls_types_programs.specs.Stops.{Marks, marked}
use Rattle.ls_types_programs.specs.Spelled.{Argument, Others, Arguments}
use Rattle.ls_types_programs.specs.Faults.{IsCallee}
use Rattle.ls_types_programs.proofs.Pieces.{Front, front_push}
use Rattle.ls_types_programs.proofs.Rest.{with_values}

-- the program whose last block ends here
abbrev pub program_at : Parts → Program
program_at r = record { names = r.names; threads = r.threads ++ record { name = r.name; calls = r.calls } ∷ [] }

-- the tokens of two lists
pub lexemes_append : (xs ys : List Token) → lexemes (xs ++ ys) ≡ lexemes xs ++ lexemes ys
lexemes_append [] ys = refl
lexemes_append (x ∷ xs) ys = ap (λ l. lexeme_of x.kind ∷ l) (lexemes_append xs ys)

-- one more token at the end of two lists, and of three
pub longer : (front base js : List Token) (t : Token) → front ≡ base ++ js → front ++ t ∷ [] ≡ base ++ (js ++ t ∷ [])
longer front base js t e = ap (λ l. l ++ t ∷ []) e ∙ append_assoc base js (t ∷ [])

taken_longer : (js : List Token) (ls : List Lexeme) (t : Token) (k : Lexeme) →
    lexemes js ≡ ls →
    lexeme_of t.kind ≡ k →
    lexemes (js ++ t ∷ []) ≡ ls ++ k ∷ []
taken_longer js ls t k e is = lexemes_append js (t ∷ []) ∙ ap (λ l. l ++ lexeme_of t.kind ∷ []) e ∙
    ap (λ x. ls ++ x ∷ []) is

module _ (o : ElaboratedFile) where
  -- the reading of these tokens comes to this stage
  abbrev pub Reads : Parts → Stage → List Token → Type 0
  Reads r stage ts = after o (Some beginning) (lexemes ts) ≡ Some (at r stage)

  -- since the call began: its first name
  pub record SinceName (r : Parts) (name : Text) (mark : ℕ) (front : List Token) : Type 0 where
    pub base : List Token
    pub token : Token
    pub is : front ≡ base ++ token ∷ []
    pub read : Reads r ThreadPrograms.AtCall base
    pub named : lexeme_of token.kind ≡ Named name
    pub place : mark ≡ token.span.start

  -- since the call began: these tokens
  pub record SinceTokens (r : Parts) (ls : List Lexeme) (front : List Token) : Type 0 where
    pub base : List Token
    pub js : List Token
    pub is : front ≡ base ++ js
    pub read : Reads r ThreadPrograms.AtCall base
    pub taken : lexemes js ≡ ls

  -- since the call began: its method or class, and these tokens
  pub record SinceCallee (r : Parts) (mark : ℕ) (p : Pending) (ls : List Lexeme) (front : List Token) : Type 0 where
    pub base : List Token
    pub mid : List Token
    pub callee : Token
    pub js : List Token
    pub is : front ≡ (base ++ mid) ++ callee ∷ js
    pub read : Reads r ThreadPrograms.AtCall base
    pub name : Text
    pub named : lexeme_of callee.kind ≡ Named name
    pub taken : lexemes js ≡ ls
    pub there : IsCallee o (program_at r) (lexemes mid) name p.types
    pub place : mark ≡ callee.span.start
    pub fit : Front p.types p.values

  -- an argument and others make these tokens arguments
  abbrev pub Argues : Pending → List Lexeme → Type 0
  Argues p ls = (v : Value) (vs : List Value) (ks js rest : List Lexeme) → Argument v ks js → Others vs js rest →
      Arguments (p.values ++ v ∷ vs) (ls ++ ks) rest

  -- others do
  abbrev pub Others_follow : Pending → List Lexeme → Type 0
  Others_follow p ls = (vs : List Value) (ks rest : List Lexeme) → Others vs ks rest →
      Arguments (p.values ++ vs) (ls ++ ks) rest

  -- since the call began: its arguments so far
  pub record SinceOpen (Kind : Pending → List Lexeme → Type 0) (r : Parts) (mark : ℕ) (p : Pending)
      (front : List Token) : Type 0 where
    pub ls : List Lexeme
    pub callee : SinceCallee r mark p (Marked signs.OpenParen ∷ ls) front
    pub kind : Kind p ls

  -- since the call began: its arguments so far, and a minus
  pub record SinceMinus (r : Parts) (mark : ℕ) (minus : Option ℕ) (p : Pending) (front : List Token) : Type 0 where
    pub before : List Token
    pub token : Token
    pub is : front ≡ before ++ token ∷ []
    pub signed : lexeme_of token.kind ≡ Marked signs.Minus
    pub place : minus ≡ Some token.span.start
    pub opened : SinceOpen Argues r mark p before

  -- since the last block: the word `thread`
  pub record SinceThread (r : Parts) (front : List Token) : Type 0 where
    pub base : List Token
    pub token : Token
    pub is : front ≡ base ++ token ∷ []
    pub read : Reads r ThreadPrograms.AtThread base
    pub named : lexeme_of token.kind ≡ Named (codes "thread")

  -- the tokens since the call began, in each stage
  abbrev pub Since : Parts → Stage → Marks → List Token → Type 0
  Since r (ThreadPrograms.AfterName name) m front = SinceName r name m.name front
  Since r (ThreadPrograms.AfterAssign name) m front = SinceTokens r (Named name ∷ Marked signs.Assign ∷ []) front ×
      (is_new_name r name ≡ true)
  Since r (ThreadPrograms.AfterNew name) m front = SinceTokens r
      (Named name ∷ Marked signs.Assign ∷ Reserved words.New ∷ []) front × (is_new_name r name ≡ true)
  Since r (ThreadPrograms.AfterDot n) m front = (s : SetupName) ×
      SinceTokens r (Named s.name ∷ Marked signs.Dot ∷ []) front × (slice_get r.names n ≡ Some s)
  Since r (ThreadPrograms.AtArguments p) m front = SinceCallee r m.callee p [] front × (p.values ≡ [])
  Since r (ThreadPrograms.AtFirst p) m front = SinceCallee r m.callee p (Marked signs.OpenParen ∷ []) front ×
      (p.values ≡ []) × (m.minus ≡ None)
  Since r (ThreadPrograms.AtArgument p) m front = SinceOpen Argues r m.callee p front × (m.minus ≡ None)
  Since r (ThreadPrograms.AfterMinus p) m front = SinceMinus r m.callee m.minus p front
  Since r (ThreadPrograms.AfterArgument p) m front = SinceOpen Others_follow r m.callee p front
  Since r (ThreadPrograms.AtSemicolon p) m front = SinceOpen (λ p ls. Arguments p.values ls [] × (is_full p ≡ true)) r
      m.callee p front
  Since r ThreadPrograms.AtThreadName m front = SinceThread r front
  Since r _ m front = Unit {0}

  -- ---- a token after those before it

  pub with_token : (r : Parts) (ls : List Lexeme) (front : List Token) (t : Token) (k : Lexeme) →
      lexeme_of t.kind ≡ k →
      SinceTokens r ls front →
      SinceTokens r (ls ++ k ∷ []) (front ++ t ∷ [])
  with_token r ls front t k is h = record {
    base = h.base;
    js = h.js ++ t ∷ [];
    is = longer front h.base h.js t h.is;
    read = h.read;
    taken = taken_longer h.js ls t k h.taken is;
  }

  pub called_token : (r : Parts) (mark : ℕ) (p : Pending) (ls : List Lexeme) (front : List Token) (t : Token)
      (k : Lexeme) →
      lexeme_of t.kind ≡ k →
      SinceCallee r mark p ls front →
      SinceCallee r mark p (ls ++ k ∷ []) (front ++ t ∷ [])
  called_token r mark p ls front t k is h = record {
    base = h.base;
    mid = h.mid;
    callee = h.callee;
    js = h.js ++ t ∷ [];
    is = longer front (h.base ++ h.mid) (h.callee ∷ h.js) t h.is;
    read = h.read;
    name = h.name;
    named = h.named;
    taken = taken_longer h.js ls t k h.taken is;
    there = h.there;
    place = h.place;
    fit = h.fit;
  }

  pub with_value : (r : Parts) (mark : ℕ) (p : Pending) (v : Value) (ls : List Lexeme) (front : List Token) →
      fits (slice_get p.types (length p.values)) v ≡ true
      → SinceCallee r mark p ls front → SinceCallee r mark (with_values p (p.values ++ v ∷ [])) ls front
  with_value r mark p v ls front e h = record {
    base = h.base;
    mid = h.mid;
    callee = h.callee;
    js = h.js;
    is = h.is;
    read = h.read;
    name = h.name;
    named = h.named;
    taken = h.taken;
    there = h.there;
    place = h.place;
    fit = front_push p.types p.values v h.fit e;
  }

  -- what the next stage comes after
  abbrev pub Next : Marks → ℕ → List Token → Option Reading → Type 0
  Next m place front None = Unit {0}
  Next m place front (Some q) = Since q.parts q.stage (marked m place q.stage) front

  pub when_next : (m : Marks) (place : ℕ) (front : List Token) (b : Bool) (q : Reading) →
      (b ≡ true → Since q.parts q.stage (marked m place q.stage) front) →
      Next m place front (when b q)
  when_next m place front true q h = h refl
  when_next m place front false q h = tt
