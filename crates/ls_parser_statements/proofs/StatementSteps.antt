-- The first token of a statement and of a block.
use Rattle.std.proofs.Common.{◌≡◌, ℕ, zero, suc, ◌+◌, ◌-◌, ◌<◌, false, length, List, [], ◌∷◌, Some, None, refl, ap}
use Rattle.std.proofs.Common.{◌∙◌, arith}
use Rattle.ls_lexer.specs.declared.token.Token.{Token}
use Rattle.ls_lexer.specs.Lexemes.{Lexeme, lexemes}
use Rattle.ls_lexer.specs.declared.sign.Sign.TheVariants as signs
use Rattle.ls_tree.specs.Trees.{Simple}
use Rattle.ls_parser_tokens.specs.Reading.{starts, one_more, behind_comma}
use Rattle.ls_parser_expressions.proofs.Repeats.{InRepeat, list_begins}
use Rattle.ls_parser_expressions.specs.ReadingExpressions.{expression_at, post_at}
use Rattle.ls_parser_declarations.specs.ReadingDeclarations.{declaration_at}
use Rattle.ls_parser_statements.specs.ReadingStatements.{statement_at, block_at, nested_at, begun_at, first_of}
use Rattle.ls_parser_statements.specs.ReadingStatements.{braces_at, piece_at, local_at, simple_from, simple_at}
use Rattle.ls_parser_statements.specs.ReadingStatements.{simples_at}

-- a statement by its first token
pub statement_step : (limit : ℕ) (k : Lexeme) (ks : List Lexeme) →
    0 < limit →
    statement_at limit (k ∷ ks) ≡ begun_at (limit - 1) (first_of k) (k ∷ ks) ks
unfolding nested_at
statement_step zero k ks lt = absurd (omega arith)
statement_step (suc limit) k ks lt =
    let is : suc limit - 1 ≡ limit = omega arith in
    rw is refl

-- no token is no statement
pub statement_nothing : (limit : ℕ) (tokens : List Token) →
    length tokens ≡ 0 →
    statement_at limit (lexemes tokens) ≡ None
unfolding nested_at
statement_nothing zero tokens h = refl
statement_nothing (suc limit) [] h = refl
statement_nothing (suc limit) (t ∷ ts) h = absurd (omega arith)

-- in no height there is no statement
pub statement_zero : (limit : ℕ) (ks : List Lexeme) → limit ≡ 0 → statement_at limit ks ≡ None
unfolding nested_at
statement_zero zero ks e = refl
statement_zero (suc limit) ks e = absurd (omega arith)

-- in no height there is no block
pub block_zero : (limit : ℕ) (ks : List Lexeme) → limit ≡ 0 → block_at limit ks ≡ None
unfolding nested_at
block_zero zero ks e = refl
block_zero (suc limit) ks e = absurd (omega arith)

-- a block's items are one less high
pub block_step : (limit : ℕ) (ks : List Lexeme) →
    0 < limit →
    block_at limit ks ≡ braces_at (piece_at (local_at (limit - 1)) (statement_at (limit - 1))) ks
unfolding nested_at
block_step zero ks lt = absurd (omega arith)
block_step (suc limit) ks lt =
    let is : suc limit - 1 ≡ limit = omega arith in
    rw is refl

-- the same of a height that is one more
pub block_next : (limit : ℕ) (ks : List Lexeme) →
    block_at (limit + 1) ks ≡ braces_at (piece_at (local_at limit) (statement_at limit)) ks
block_next limit ks =
    let is : limit + 1 - 1 ≡ limit = omega arith in
    block_step (limit + 1) ks (omega arith) ∙ ap (λ (n : ℕ). braces_at (piece_at (local_at n) (statement_at n)) ks) is

-- in no height there is no declaration
pub local_zero : (limit : ℕ) (ks : List Lexeme) → limit ≡ 0 → local_at limit ks ≡ None
local_zero zero ks e = refl
local_zero (suc limit) ks e = absurd (omega arith)

-- a declaration's values are one less high
pub local_step : (limit : ℕ) (ks : List Lexeme) →
    0 < limit →
    local_at limit ks ≡ declaration_at (expression_at (limit - 1)) ks
local_step zero ks lt = absurd (omega arith)
local_step (suc limit) ks lt =
    let is : suc limit - 1 ≡ limit = omega arith in
    rw is refl

-- in no height there is no simple form
pub simple_zero : (limit : ℕ) (ks : List Lexeme) → limit ≡ 0 → simple_at limit ks ≡ None
simple_zero zero ks e = refl
simple_zero (suc limit) ks e = absurd (omega arith)

-- a simple form's expressions are one less high
pub simple_step : (limit : ℕ) (ks : List Lexeme) →
    0 < limit →
    simple_at limit ks ≡ simple_from (post_at (limit - 1) false) (expression_at (limit - 1)) ks
simple_step zero ks lt = absurd (omega arith)
simple_step (suc limit) ks lt =
    let is : suc limit - 1 ≡ limit = omega arith in
    rw is refl

-- after the first of simple forms come the others
pub simples_begin : (limit : ℕ) (ks rest : List Lexeme) (first : Simple) → simple_at limit ks ≡ Some (first, rest) →
    InRepeat (starts signs.Comma) (one_more (behind_comma (simple_at limit))) (length rest) (first ∷ []) rest
    (simples_at (simple_at limit) ks)
simples_begin limit ks rest first e =
    rw e (list_begins (first ∷ []) (starts signs.Comma) (behind_comma (simple_at limit)) rest)
