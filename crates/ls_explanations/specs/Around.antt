-- What stands beside a place of a thread program: its tokens, as far as the form of a program tells them apart.
use Rattle.std.specs.Prelude.{◌||◌, Bool, true, false, List, [], ◌∷◌, drop}
use Rattle.ls_lexer.specs.Lexemes.{Lexeme, Named, Numeral, Reserved, Marked}
use Rattle.ls_lexer.specs.declared.sign.Sign.{Sign}
use Rattle.ls_lexer.specs.declared.sign.Sign.TheVariants as signs
use Rattle.ls_lexer.specs.declared.word.Word.{Word}
use Rattle.ls_lexer.specs.declared.word.Word.TheVariants as words
use Rattle.ls_explanations.specs.declared.nearby.Ahead.{Ahead}
use Rattle.ls_explanations.specs.declared.nearby.Before.{Before}
use Rattle.ls_explanations.specs.declared.nearby.Near.{Near}
use Rattle.ls_explanations.specs.declared.nearby.Near.TheVariants as near

abbrev pub near_word : Word → Near
near_word words.True = near.Value
near_word words.False = near.Value
near_word words.New = near.New
near_word words.Int = near.Type
near_word words.Boolean = near.Type
near_word words.Long = near.Type
near_word words.Short = near.Type
near_word words.Byte = near.Type
near_word words.Char = near.Type
near_word words.Float = near.Type
near_word words.Double = near.Type
near_word words.Final = near.Final
near_word words.If = near.Statement
near_word words.Else = near.Statement
near_word words.For = near.Statement
near_word words.While = near.Statement
near_word words.Do = near.Statement
near_word words.Switch = near.Statement
near_word words.Try = near.Statement
near_word words.Return = near.Statement
near_word words.Throw = near.Statement
near_word words.Synchronized = near.Statement
near_word words.Class = near.Class
near_word words.Interface = near.Class
near_word words.Enum = near.Class
near_word words.Abstract = near.Class
near_word words.Import = near.Class
near_word words.Package = near.Class
near_word words.Public = near.Class
near_word _ = near.Word

abbrev pub near_sign : Sign → Near
near_sign signs.OpenBrace = near.OpenBrace
near_sign signs.CloseBrace = near.CloseBrace
near_sign signs.OpenParen = near.OpenParen
near_sign signs.CloseParen = near.CloseParen
near_sign signs.Semicolon = near.Semicolon
near_sign signs.Comma = near.Comma
near_sign signs.Dot = near.Dot
near_sign signs.Assign = near.Assign
near_sign signs.Less = near.Less
near_sign signs.Minus = near.Minus
near_sign _ = near.Sign

abbrev pub near_of : Lexeme → Near
near_of (Named text) = near.Name
near_of (Numeral text) = near.Value
near_of (Reserved word) = near_word word
near_of (Marked sign) = near_sign sign

abbrev pub is_close : Near → Bool
is_close near.CloseBrace = true
is_close _ = false

-- what stands before the next place, after one more token
abbrev pub stepped : Before → Near → Before
stepped before n = record { second = before.last; last = n; is_closed = before.is_closed || is_close n }

-- what stands before the end of these tokens
abbrev pub passed : Before → List Lexeme → Before
passed before [] = before
passed before (k ∷ ks) = passed (stepped before (near_of k)) ks

-- what stands before the first token
abbrev pub no_tokens : Before
no_tokens = record { second = near.Nothing; last = near.Nothing; is_closed = false }

abbrev pub front : List Lexeme → Near
front [] = near.Nothing
front (k ∷ ks) = near_of k

-- the first three of these tokens
abbrev pub ahead_of : List Lexeme → Ahead
ahead_of ks = record { here = front ks; next = front (drop 1 ks); later = front (drop 1 (drop 1 ks)) }
