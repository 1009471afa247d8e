-- What a contract sees of a list of token kinds.
use Rattle.std.specs.Prelude.{List, map}
use Rattle.ls_lexer.specs.declared.token.TokenKind.{TokenKind}
use Rattle.ls_lexer.specs.Lexemes.{Lexeme, lexeme_of}

abbrev pub lexemes_of : List TokenKind → List Lexeme
lexemes_of kinds = map lexeme_of kinds
