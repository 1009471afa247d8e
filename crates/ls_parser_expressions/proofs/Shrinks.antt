-- Readers take a token at least.
use Rattle.std.proofs.Common.{◌≡◌, ◌<◌, suc, length, List, [], ◌∷◌, ◌++◌, Some, refl, ap, arith}
use Rattle.ls_lexer.specs.Lexemes.{Lexeme, lexemes}
use Rattle.ls_lexer.specs.declared.token.Token.{Token}
use Rattle.ls_lexer.specs.declared.sign.Sign.TheVariants as signs
use Rattle.ls_parser_tokens.specs.Reading.{Reader, one_more, behind_comma, after_sign}
use Rattle.ls_parser_expressions.proofs.Repeats.{bind_some, some_is}
use Rattle.ls_parser_expressions.proofs.Signs.{sign_reads}

-- if a thing is read, a token at least is taken
abbrev pub Shrinks : {A : Type 0} → Reader A → Type 0
Shrinks {A} item = (ks : List Lexeme) (x : A × List Lexeme) → item ks ≡ Some x → length x.1 < length ks

-- one thing more takes a token
pub one_more_shrinks : {A : Type 0} (item : Reader A) →
    Shrinks item →
    (front all : List A) (ks rest : List Lexeme) →
    one_more item front ks ≡ Some (all, rest) →
    length rest < length ks
one_more_shrinks item shrinks front all ks rest e =
    let b = bind_some (item ks) (λ x. Some (front ++ x.0 ∷ [], x.1)) (all, rest) e in
    let is = some_is (front ++ b.0.0 ∷ [], b.0.1) (all, rest) b.2 in
    let same : b.0.1 ≡ rest = ap (λ p. p.1) is in
    omega (arith, shrinks ks b.0 b.1, ap length same)

-- a thing after a comma takes a token
pub comma_shrinks : {A : Type 0} (item : Reader A) → Shrinks item → Shrinks (behind_comma item)
comma_shrinks item shrinks ks x e =
    let b = bind_some (after_sign signs.Comma ks) (λ rest. item rest) x e in
    omega (arith, shrinks b.0 x b.2, ap length (sign_reads signs.Comma ks b.0 b.1))

length_lexemes : (ts : List Token) → length (lexemes ts) ≡ length ts
length_lexemes [] = refl
length_lexemes (t ∷ ts) = ap suc (length_lexemes ts)

-- if fewer tokens are left without places, fewer are left with them
pub tokens_shrink : (ts rest : List Token) → length (lexemes rest) < length (lexemes ts) → length rest < length ts
tokens_shrink ts rest h = omega (arith, length_lexemes ts, length_lexemes rest)
