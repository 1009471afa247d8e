-- Tokens without their places.
use Rattle.std.specs.Prelude.{ℕ, List, [], ◌∷◌}
use Rattle.ls_lexer.specs.declared.word.Word.{Word}
use Rattle.ls_lexer.specs.declared.sign.Sign.{Sign}
use Rattle.ls_lexer.specs.declared.token.TokenKind.{TokenKind}
use Rattle.ls_lexer.specs.declared.token.TokenKind.TheVariants as kinds
use Rattle.ls_lexer.specs.declared.token.Token.{Token}

-- A token (JLS 3.5) as the grammar sees it. A name or a number has its text, in bytes. Or it is a reserved word, or a
-- separator or operator.
pub data Lexeme : Type 0 where
  Named : (text : List ℕ) → Lexeme
  Numeral : (text : List ℕ) → Lexeme
  Reserved : (word : Word) → Lexeme
  Marked : (sign : Sign) → Lexeme

abbrev pub lexeme_of : TokenKind → Lexeme
lexeme_of (kinds.Name text) = Named text.now
lexeme_of (kinds.Number text) = Numeral text.now
lexeme_of (kinds.Word word) = Reserved word
lexeme_of (kinds.Sign sign) = Marked sign

abbrev pub lexemes : List Token → List Lexeme
lexemes [] = []
lexemes (t ∷ ts) = lexeme_of t.kind ∷ lexemes ts
