-- One more token.
use Rattle.std.proofs.Common.{◌≡◌, List, [], ◌∷◌, ◌++◌, refl, ap, ◌∙◌, append_assoc}
use Rattle.ls_lexer.specs.declared.token.TokenKind.{TokenKind}
use Rattle.ls_lexer.specs.Lexemes.{Lexeme, lexeme_of}
use Rattle.ls_parser_spelling.specs.Kinds.{lexemes_of}

-- one token more
pub kinds_push : (kinds : List TokenKind) (kind : TokenKind) →
    lexemes_of (kinds ++ kind ∷ []) ≡ lexemes_of kinds ++ lexeme_of kind ∷ []
kinds_push [] kind = refl
kinds_push (k ∷ kinds) kind = ap (λ (ks : List Lexeme). lexeme_of k ∷ ks) (kinds_push kinds kind)

-- one token and then more
pub first_and_more : (before one all more : List Lexeme) (k : Lexeme) →
    one ≡ before ++ k ∷ [] →
    all ≡ one ++ more →
    all ≡ before ++ k ∷ more
first_and_more before one all more k e h = h ∙ ap (λ (ks : List Lexeme). ks ++ more) e ∙
    append_assoc before (k ∷ []) more
