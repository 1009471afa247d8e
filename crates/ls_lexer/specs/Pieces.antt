-- Gaps and tokens as the functions of the lexer pass them on.
use Rattle.std.specs.Prelude.{ℕ, List, [], ◌∷◌, Option, Some, None}
use Rattle.ls_lexer.specs.declared.token.Span.{Span}
use Rattle.ls_lexer.specs.declared.token.Token.{Token}
use Rattle.ls_lexer.specs.declared.token.TokenKind.{TokenKind}
use Rattle.ls_lexer.specs.Lexemes.{Lexeme, lexeme_of}
use Rattle.ls_lexer.specs.Places.{IsSlice}

abbrev pub maybe_lexeme : Option TokenKind → Option Lexeme
maybe_lexeme None = None
maybe_lexeme (Some kind) = Some (lexeme_of kind)

-- the token that has this kind, if any, at this span
abbrev pub placed : Option TokenKind → Span → List Token
placed None span = []
placed (Some kind) span = (record { kind = kind; span = span }) ∷ []

abbrev pub IsPieceSlice : List ℕ → Option TokenKind → Type 0
IsPieceSlice slice None = Unit {0}
IsPieceSlice slice (Some kind) = IsSlice slice kind
