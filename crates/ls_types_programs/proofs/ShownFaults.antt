-- What a fault shows of the text, at a token after those before it.
use Rattle.std.proofs.Common.{◌≡◌, ℕ, refl, ◌∙◌, subst, ap, List, [], ◌∷◌, ◌++◌, append_assoc, length, Option, Some}
use Rattle.std.proofs.Common.{None}
use Rattle.ls_lexer.specs.declared.sign.Sign.TheVariants as signs
use Rattle.ls_lexer.specs.declared.token.Token.{Token}
use Rattle.ls_lexer.specs.Lexemes.{Lexeme, Marked, lexeme_of, lexemes}
use Rattle.ls_lexer.specs.Places.{InOrder}
use Rattle.ls_lexer.specs.Tokens.{tokens_of}
use Rattle.ls_lexer.proofs.FormedLaws.{tokens_are_formed}
use Rattle.ls_types_elaboration.specs.Trees.{Text}
use Rattle.ls_types_elaboration.specs.Elaboration.{ElaboratedFile}
use Rattle.ls_types_programs.specs.ThreadPrograms
use Rattle.ls_types_programs.specs.ThreadPrograms.{Parts, Reading, at, closed, stepped, after, beginning}
use Rattle.ls_types_programs.specs.Stops.{Form, Fault, Bad, Unknown, References, Past, why}
use Rattle.ls_types_programs.specs.Faults as faults
use Rattle.ls_types_programs.specs.Faults.{IsBefore, IsBad, IsUnknown, IsReference}
use Rattle.ls_types_programs.specs.Refusals.{ShowsAt, IsBadAt, Within, PassesLimit}
use Rattle.ls_types_programs.proofs.Fronts.{Formed, formed_front, formed_end}
use Rattle.ls_types_programs.proofs.Whole.{tokens_spell}
use Rattle.ls_types_programs.proofs.Forms.{form_stands}
use Rattle.ls_types_programs.proofs.Ways.{goes_on as reading_goes_on}
use Rattle.ls_types_programs.proofs.Since.{program_at, lexemes_append, Reads, SinceTokens}

-- what each fault shows of the text
abbrev pub Shown : ElaboratedFile → Text → Fault → Type 0
Shown o text (Bad at) = IsBadAt o text at
Shown o text (Unknown at) = ShowsAt (IsUnknown o) text at
Shown o text (References at) = ShowsAt (IsReference o) text at
Shown o text Past = PassesLimit o text

module _ (o : ElaboratedFile) where
  -- the program before a statement, and the whole one before a thread
  pub before : (r : Parts) (ks : List Lexeme) →
      Formed ks →
      after o (Some beginning) ks ≡ Some (at r ThreadPrograms.AtCall) →
      IsBefore o (program_at r) ks
  before r ks formed e =
      let w = tokens_spell o (closed r) (ks ++ Marked signs.CloseBrace ∷ [])
      (formed_end ks (Marked signs.CloseBrace) tt formed)
      (after_more (Some beginning) ks (Marked signs.CloseBrace ∷ []) ∙
      ap (λ x. after o x (Marked signs.CloseBrace ∷ [])) e) in
      record { spelled = w.spelled; program = w.program }
    where
      after_more : (x : Option Reading) (ks js : List Lexeme) → after o x (ks ++ js) ≡ after o (after o x ks) js
      after_more None ks js = refl
      after_more (Some r) [] js = refl
      after_more (Some r) (k ∷ ks) js = after_more (stepped o r.parts r.stage k) ks js

  -- ---- at a token, after those before it

  module _ (text : Text) (front : List Token) (t : Token) (ts : List Token)
      (lexed : tokens_of text ≡ Some (lexemes (front ++ t ∷ ts)))
      (spans : InOrder text 0 (front ++ t ∷ ts) (length text)) where
    formed : Formed (lexemes (front ++ t ∷ ts))
    formed = tokens_are_formed text (lexemes (front ++ t ∷ ts)) lexed

    pub formed_of : (base back : List Token) → front ++ t ∷ ts ≡ base ++ back → Formed (lexemes base)
    formed_of base back e = formed_front (lexemes base) (lexemes back)
        (subst Formed (ap lexemes e ∙ lexemes_append base back) formed)

    k : Lexeme
    k = lexeme_of t.kind

    -- the text's tokens, at one of them
    pub shows : (Fault : List Lexeme → List Lexeme → Type 0) (base : List Token) (a : Token) (back : List Token)
        (place : ℕ)
        (before shown rest : List Lexeme) →
        front ++ t ∷ ts ≡ base ++ a ∷ back
        → lexemes base ≡ before → lexemes (a ∷ back) ≡ shown ++ rest → place ≡ a.span.start → Fault before shown →
        ShowsAt Fault text place
    shows Fault base a back place before shown rest e fronts backs is fault = record {
      before = before;
      shown = shown;
      rest = rest;
      fault = fault;
      stands = record {
        front = base;
        back = a ∷ back;
        lexed = lexed ∙ ap (λ l. Some l) (ap lexemes e ∙ lexemes_append base (a ∷ back) ∙
            ap (λ l. l ++ lexemes (a ∷ back)) fronts ∙ ap (λ l. before ++ l) backs);
        fronts = fronts;
        backs = backs;
        spans = subst (λ l. InOrder text 0 l (length text)) e spans;
        place = is;
      };
    }

    pub here : (Fault : List Lexeme → List Lexeme → Type 0) (before : List Lexeme) (j : Lexeme) →
        lexemes front ≡ before →
        lexeme_of t.kind ≡ j →
        Fault before (j ∷ []) →
        ShowsAt Fault text t.span.start
    here Fault before j e is fault = shows Fault front t ts t.span.start before (j ∷ []) (lexemes ts) refl e
        (ap (λ x. x ∷ lexemes ts) is) refl fault

    pub form : (q : Reading) →
        after o (Some beginning) (lexemes front) ≡ Some q →
        stepped o q.parts q.stage (lexeme_of t.kind) ≡ None →
        why o q.parts q.stage (lexeme_of t.kind) ≡ Form →
        IsBadAt o text t.span.start
    form q read none is =
        Within (here (IsBad o) (lexemes front) (lexeme_of t.kind) refl refl
        (faults.Form (lexeme_of t.kind) (reading_goes_on o (lexemes front) q (formed_of front (t ∷ ts) refl) read)
        (form_stands o (lexemes front) (lexeme_of t.kind) q read none is)))

    -- ---- names

    -- the tokens in front are those before the statement and these
    pub tokens_in : (r : Parts) (ls : List Lexeme) → (h : SinceTokens o r ls front) → lexemes front ≡ lexemes h.base ++
        ls
    tokens_in r ls h = ap lexemes h.is ∙ lexemes_append h.base h.js ∙ ap (λ l. lexemes h.base ++ l) h.taken

    pub whole_is : (base js : List Token) → front ≡ base ++ js → front ++ t ∷ ts ≡ base ++ (js ++ t ∷ ts)
    whole_is base js e = ap (λ l. l ++ t ∷ ts) e ∙ append_assoc base js (t ∷ ts)

    pub before_of : (r : Parts) (base js : List Token) →
        front ≡ base ++ js →
        Reads o r ThreadPrograms.AtCall base →
        IsBefore o (program_at r) (lexemes base)
    before_of r base js e read = before r (lexemes base) (formed_of base (js ++ t ∷ ts) (whole_is base js e)) read
