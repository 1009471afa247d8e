-- Values and heads of statements: what is read is spelled so and well-formed.
use Rattle.std.proofs.Common.{◌≡◌, ℕ, zero, suc, ◌+◌, ◌≤◌, max, true, List, [], ◌∷◌, Option, Some, None, ap, subst, ◌∙◌}
use Rattle.std.proofs.Common.{inl, inr, arith}
use Rattle.std.specs.List.{AllByRecursion}
use Rattle.ls_lexer.specs.declared.sign.Sign.TheVariants as signs
use Rattle.ls_lexer.specs.declared.word.Word.TheVariants as words
use Rattle.ls_lexer.specs.Lexemes.{Lexeme, Marked}
use Rattle.ls_tree.specs.Trees.{Expression, Declaration, Simple, Opening, Declares, Performs, Statement, Items, Piece}
use Rattle.ls_tree.specs.Trees.{Doing, Declaring, collected}
use Rattle.ls_tree.specs.WellFormed.{value_height, declaration_height, simples_height, opening_height, statement_height}
use Rattle.ls_tree.specs.WellFormed.{items_height, ends_open, WellFormedValue, WellFormedDeclaration, WellFormedSimples}
use Rattle.ls_tree.specs.WellFormed.{WellFormedOpening, WellFormedStatement, WellFormedItems}
use Rattle.ls_parser_tokens.specs.Reading.{◌>>=◌, Reader, after_sign, after_word}
use Rattle.ls_parser_expressions.specs.ReadingExpressions.{expression_at}
use Rattle.ls_parser_declarations.specs.ReadingDeclarations.{declaration_at, starts_declaration}
use Rattle.ls_parser_statements.specs.ReadingStatements.{declared_at, value_at, simple_at, simples_to, opening_at}
use Rattle.ls_parser_statements.specs.ReadingStatements.{head_in, local_at, turns_at}
use Rattle.ls_parser_expressions.proofs.Repeats.{bind_some, some_is}
use Rattle.ls_parser_expressions.proofs.Signs.{either, given_cases, sign_reads}
use Rattle.ls_parser_expressions.proofs.Onto.{onto}
use Rattle.ls_parser_statements.proofs.OntoStatements.{onto_value, onto_opening, onto_head, onto_statement, onto_block}
use Rattle.ls_parser_statements.proofs.OntoStatements.{onto_piece}
use Rattle.ls_parser_expressions.proofs.ExpressionsRead.{expression_sound}
use Rattle.ls_parser_declarations.proofs.DeclarationsRead.{declaration_sound}
use Rattle.ls_parser_statements.proofs.SimplesRead.{simples_sound}

abbrev pub cons : Lexeme → List Lexeme → List Lexeme
cons k ks = k ∷ ks

-- ---- statements

pub record ReadsStatement (limit : ℕ) (ks : List Lexeme) (x : Statement × List Lexeme) : Type 0 where
  pub spelled : ks ≡ onto_statement x.0 x.1
  pub formed : WellFormedStatement x.0
  pub fits : statement_height x.0 ≤ limit
  pub stops : ends_open x.0 ≡ true → after_word words.Else x.1 ≡ None

abbrev pub SoundStatement : Reader Statement → ℕ → Type 0
SoundStatement reader limit = (ks : List Lexeme) (x : Statement × List Lexeme) → reader ks ≡ Some x →
    ReadsStatement limit ks x

pub record ReadsBlock (limit : ℕ) (ks : List Lexeme) (x : Items × List Lexeme) : Type 0 where
  pub spelled : ks ≡ onto_block x.0 x.1
  pub formed : WellFormedItems x.0
  pub fits : items_height x.0 + 1 ≤ limit

abbrev pub SoundBlock : Reader Items → ℕ → Type 0
SoundBlock reader limit = (ks : List Lexeme) (x : Items × List Lexeme) → reader ks ≡ Some x → ReadsBlock limit ks x

-- an item that is well formed and not too high
abbrev pub FormedPiece : ℕ → Piece → Type 0
FormedPiece limit (Doing a) = WellFormedStatement a × (statement_height a ≤ limit)
FormedPiece limit (Declaring d) = WellFormedDeclaration d × (declaration_height d ≤ limit)

pub pieces_formed : (limit : ℕ) (ps : List Piece) →
    AllByRecursion (FormedPiece limit) ps →
    WellFormedItems (collected ps) × (items_height (collected ps) ≤ limit)
pieces_formed limit [] all = (tt, omega arith)
pieces_formed limit (Doing a ∷ ps) all =
    let more = pieces_formed limit ps all.1 in
    ((all.0.0, more.0), omega (arith, all.0.1, more.1))
pieces_formed limit (Declaring d ∷ ps) all =
    let more = pieces_formed limit ps all.1 in
    ((all.0.0, more.0), omega (arith, all.0.1, more.1))

pub local_sound : (limit : ℕ) (ks : List Lexeme) (x : Piece × List Lexeme) →
    declared_at (local_at limit) ks ≡ Some x →
    (ks ≡ onto_piece x.0 x.1) × FormedPiece limit x.0
local_sound zero ks x e = absurd cc
local_sound (suc limit) ks x e =
    let d = bind_some (declaration_at (expression_at limit) ks) _ x e in
    let r = declaration_sound limit ks d.0 d.1 in
    subst (λ (y : Piece × List Lexeme). (ks ≡ onto_piece y.0 y.1) × FormedPiece (suc limit) y.0)
    (some_is (Declaring d.0.0, d.0.1) x d.2)
    (r.spelled, (r.formed, omega (arith, r.fits)))

-- ---- values and heads

pub record ReadsValue (limit : ℕ) (ks : List Lexeme) (x : Option Expression × List Lexeme) : Type 0 where
  pub spelled : ks ≡ onto_value x.0 (Marked signs.Semicolon ∷ x.1)
  pub formed : WellFormedValue x.0
  pub fits : value_height x.0 ≤ limit

pub value_sound : (limit : ℕ) (ks : List Lexeme) (x : Option Expression × List Lexeme) →
    value_at (expression_at limit) ks ≡ Some x →
    ReadsValue limit ks x
value_sound limit ks x e =
    elim (given_cases (after_sign signs.Semicolon ks) _
    (expression_at limit ks >>= λ value. after_sign signs.Semicolon value.1 >>= λ rest. Some (Some value.0, rest))
    (Some x) e) [
      | inr none ↦ subst (ReadsValue limit ks) (some_is (None, none.0) x none.2)
          (record { spelled = sign_reads signs.Semicolon ks none.0 none.1; formed = tt; fits = omega arith })
      | inl some ↦
          let t = bind_some (expression_at limit ks) _ x some.1 in
          let s = bind_some (after_sign signs.Semicolon t.0.1) _ x t.2 in
          let value = expression_sound limit ks t.0 t.1 in
          subst (ReadsValue limit ks) (some_is (Some t.0.0, s.0) x s.2)
          (record {
            spelled = value.spelled ∙ ap (onto t.0.0) (sign_reads signs.Semicolon t.0.1 s.0 s.1);
            formed =
                value.formed;
            fits = value.fits;
          })
    ]

record ReadsOpening (limit : ℕ) (ks : List Lexeme) (x : Opening × List Lexeme) : Type 0 where
  spelled : ks ≡ onto_opening x.0 x.1
  formed : WellFormedOpening x.0
  fits : opening_height x.0 ≤ limit

declared_sound : (limit : ℕ) (ks : List Lexeme) (d : Declaration × List Lexeme) →
    local_at limit ks ≡ Some d →
    ReadsOpening limit ks (Declares d.0, d.1)
declared_sound zero ks d e = absurd cc
declared_sound (suc limit) ks d e =
    let r = declaration_sound limit ks d e in
    record { spelled = r.spelled; formed = r.formed; fits = omega (arith, r.fits) }

opening_sound : (limit : ℕ) (ks : List Lexeme) (x : Opening × List Lexeme) →
    opening_at (local_at limit) (simple_at limit) ks ≡ Some x →
    ReadsOpening limit ks x
opening_sound limit ks x e =
    elim (either (starts_declaration ks) (local_at limit ks >>= λ d. Some (Declares d.0, d.1))
    (simples_to signs.Semicolon (simple_at limit) ks >>= λ all. Some (Performs all.0, all.1)) (Some x) e) [
      | inl declared ↦
          let d = bind_some (local_at limit ks) _ x declared.1 in
          subst (ReadsOpening limit ks) (some_is (Declares d.0.0, d.0.1) x d.2) (declared_sound limit ks d.0 d.1)
      | inr performed ↦
          let all = bind_some (simples_to signs.Semicolon (simple_at limit) ks) _ x performed.1 in
          let r = simples_sound limit signs.Semicolon ks all.0 all.1 in
          subst (ReadsOpening limit ks) (some_is (Performs all.0.0, all.0.1) x all.2)
          (record { spelled = r.spelled; formed = r.formed; fits = r.fits })
    ]

pub record ReadsHead (limit : ℕ) (ks : List Lexeme) (x : (Opening × Option Expression × List Simple) × List Lexeme)
    : Type 0
  where
    pub spelled : ks ≡ onto_head x.0.0 x.0.1 x.0.2 x.1
    pub opening : WellFormedOpening x.0.0
    pub condition : WellFormedValue x.0.1
    pub updates : WellFormedSimples x.0.2
    pub fits : max (opening_height x.0.0) (max (value_height x.0.1) (simples_height x.0.2)) ≤ limit

pub head_sound : (limit : ℕ) (ks : List Lexeme) (x : (Opening × Option Expression × List Simple) × List Lexeme) →
    head_in limit ks ≡ Some x →
    ReadsHead limit ks x
head_sound limit ks x e =
    let p = bind_some (after_sign signs.OpenParen ks) _ x e in
    let o = bind_some (opening_at (local_at limit) (simple_at limit) p.0) _ x p.2 in
    let w = bind_some (turns_at (simple_at limit) (expression_at limit) o.0.1) _ x o.2 in
    let v = bind_some (value_at (expression_at limit) o.0.1) _ w.0 w.1 in
    let u = bind_some (simples_to signs.CloseParen (simple_at limit) v.0.1) _ w.0 v.2 in
    let same = some_is ((v.0.0, u.0.0), u.0.1) w.0 u.2 in
    let opening = opening_sound limit p.0 o.0 o.1 in
    let condition = value_sound limit o.0.1 v.0 v.1 in
    let updates = simples_sound limit signs.CloseParen v.0.1 u.0 u.1 in
    subst (ReadsHead limit ks)
    (ap (λ (w : (Option Expression × List Simple) × List Lexeme). ((o.0.0, w.0.0, w.0.1), w.1)) same
    ∙ some_is ((o.0.0, w.0.0.0, w.0.0.1), w.0.1) x w.2) (record {
      spelled = sign_reads signs.OpenParen ks p.0 p.1 ∙
          ap (cons (Marked signs.OpenParen))
          (opening.spelled ∙
          ap (onto_opening o.0.0)
          (condition.spelled ∙ ap (λ (r : List Lexeme). onto_value v.0.0 (Marked signs.Semicolon ∷ r))
          updates.spelled));
      opening = opening.formed;
      condition = condition.formed;
      updates = updates.formed;
      fits = omega (arith, opening.fits, condition.fits, updates.fits);
    })
