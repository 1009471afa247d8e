-- Each token of a text has the form of its kind.
use Rattle.std.specs.Prelude.{◌≡◌, ℕ, List, Some, IsTrue, slice_get}
use Rattle.ls_lexer.specs.Lexemes.{Lexeme, Named, Numeral, Reserved, Marked}
use Rattle.ls_lexer.specs.Names.{IsName}
use Rattle.ls_lexer.specs.Numbers.{is_number}
use Rattle.ls_lexer.specs.Tokens.{tokens_of}

abbrev pub IsFormed : Lexeme → Type 0
IsFormed (Named text) = IsName text
IsFormed (Numeral text) = IsTrue (is_number text)
IsFormed (Reserved word) = Unit {0}
IsFormed (Marked sign) = Unit {0}

abbrev pub TokensAreFormed : Type 0
TokensAreFormed =
    (text : List ℕ) (ks : List Lexeme) → tokens_of text ≡ Some ks → (i : ℕ) (k : Lexeme) → slice_get ks i ≡ Some k →
    IsFormed k
