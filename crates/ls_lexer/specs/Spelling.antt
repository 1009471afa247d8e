-- How reserved words, separators and operators are spelled.
use Rattle.std.specs.Prelude.{◌≡◌, ◌↔◌, ◌≤◌, ℕ, List, ◌∷◌, ◌++◌, length, take, Option, Some, codes}
use Rattle.ls_lexer.specs.declared.word.Word.{Word}
use Rattle.ls_lexer.specs.declared.word.Word.TheVariants as words
use Rattle.ls_lexer.specs.declared.sign.Sign.{Sign}
use Rattle.ls_lexer.specs.declared.sign.Sign.TheVariants as signs
use Rattle.ls_lexer.specs.Words.{reserved_word}
use Rattle.ls_lexer.specs.Signs.{sign_at}

-- JLS 3.9, 3.10.3, 3.10.7
abbrev pub spelled_word : Word → List ℕ
spelled_word words.Abstract = codes "abstract"
spelled_word words.Continue = codes "continue"
spelled_word words.For = codes "for"
spelled_word words.New = codes "new"
spelled_word words.Switch = codes "switch"
spelled_word words.Assert = codes "assert"
spelled_word words.Default = codes "default"
spelled_word words.If = codes "if"
spelled_word words.Package = codes "package"
spelled_word words.Synchronized = codes "synchronized"
spelled_word words.Boolean = codes "boolean"
spelled_word words.Do = codes "do"
spelled_word words.Goto = codes "goto"
spelled_word words.Private = codes "private"
spelled_word words.This = codes "this"
spelled_word words.Break = codes "break"
spelled_word words.Double = codes "double"
spelled_word words.Implements = codes "implements"
spelled_word words.Protected = codes "protected"
spelled_word words.Throw = codes "throw"
spelled_word words.Byte = codes "byte"
spelled_word words.Else = codes "else"
spelled_word words.Import = codes "import"
spelled_word words.Public = codes "public"
spelled_word words.Throws = codes "throws"
spelled_word words.Case = codes "case"
spelled_word words.Enum = codes "enum"
spelled_word words.Instanceof = codes "instanceof"
spelled_word words.Return = codes "return"
spelled_word words.Transient = codes "transient"
spelled_word words.Catch = codes "catch"
spelled_word words.Extends = codes "extends"
spelled_word words.Int = codes "int"
spelled_word words.Short = codes "short"
spelled_word words.Try = codes "try"
spelled_word words.Char = codes "char"
spelled_word words.Final = codes "final"
spelled_word words.Interface = codes "interface"
spelled_word words.Static = codes "static"
spelled_word words.Void = codes "void"
spelled_word words.Class = codes "class"
spelled_word words.Finally = codes "finally"
spelled_word words.Long = codes "long"
spelled_word words.Strictfp = codes "strictfp"
spelled_word words.Volatile = codes "volatile"
spelled_word words.Const = codes "const"
spelled_word words.Float = codes "float"
spelled_word words.Native = codes "native"
spelled_word words.Super = codes "super"
spelled_word words.While = codes "while"
spelled_word words.True = codes "true"
spelled_word words.False = codes "false"
spelled_word words.Null = codes "null"

-- A text is read as a reserved word exactly if it is the spelling of that word.
abbrev pub ReadsWords : Type 0
ReadsWords = (text : List ℕ) (word : Word) → (reserved_word text ≡ Some word) ↔ (text ≡ spelled_word word)

-- JLS 3.11, 3.12
abbrev pub spelled_sign : Sign → List ℕ
spelled_sign signs.OpenParen = codes "("
spelled_sign signs.CloseParen = codes ")"
spelled_sign signs.OpenBrace = codes "{"
spelled_sign signs.CloseBrace = codes "}"
spelled_sign signs.OpenBracket = codes "["
spelled_sign signs.CloseBracket = codes "]"
spelled_sign signs.Semicolon = codes ";"
spelled_sign signs.Comma = codes ","
spelled_sign signs.Dot = codes "."
spelled_sign signs.Ellipsis = codes "..."
spelled_sign signs.At = codes "@"
spelled_sign signs.ColonColon = codes "::"
spelled_sign signs.Assign = codes "="
spelled_sign signs.Greater = codes ">"
spelled_sign signs.Less = codes "<"
spelled_sign signs.Not = codes "!"
spelled_sign signs.Tilde = codes "~"
spelled_sign signs.Question = codes "?"
spelled_sign signs.Colon = codes ":"
spelled_sign signs.Arrow = codes "->"
spelled_sign signs.Equal = codes "=="
spelled_sign signs.GreaterEqual = codes ">="
spelled_sign signs.LessEqual = codes "<="
spelled_sign signs.NotEqual = codes "!="
spelled_sign signs.And = codes "&&"
spelled_sign signs.Or = codes "||"
spelled_sign signs.Increment = codes "++"
spelled_sign signs.Decrement = codes "--"
spelled_sign signs.Plus = codes "+"
spelled_sign signs.Minus = codes "-"
spelled_sign signs.Star = codes "*"
spelled_sign signs.Slash = codes "/"
spelled_sign signs.BitAnd = codes "&"
spelled_sign signs.BitOr = codes "|"
spelled_sign signs.Caret = codes "^"
spelled_sign signs.Percent = codes "%"
spelled_sign signs.ShiftLeft = codes "<<"
spelled_sign signs.ShiftRight = codes ">>"
spelled_sign signs.UnsignedShiftRight = codes ">>>"
spelled_sign signs.PlusAssign = codes "+="
spelled_sign signs.MinusAssign = codes "-="
spelled_sign signs.StarAssign = codes "*="
spelled_sign signs.SlashAssign = codes "/="
spelled_sign signs.BitAndAssign = codes "&="
spelled_sign signs.BitOrAssign = codes "|="
spelled_sign signs.CaretAssign = codes "^="
spelled_sign signs.PercentAssign = codes "%="
spelled_sign signs.ShiftLeftAssign = codes "<<="
spelled_sign signs.ShiftRightAssign = codes ">>="
spelled_sign signs.UnsignedShiftRightAssign = codes ">>>="

-- The sign that is found at the front of a text is spelled there.
abbrev pub IsSpelledThere : List ℕ → Sign × ℕ → Type 0
IsSpelledThere text found = (found.1 ≡ length (spelled_sign found.0)) × (take found.1 text ≡ spelled_sign found.0)

-- If a sign is spelled at the front of a text, a sign is found that is at least as long.
abbrev pub IsAsLong : Sign → Option (Sign × ℕ) → Type 0
IsAsLong sign read = (found : Sign × ℕ) × (read ≡ Some found) × (length (spelled_sign sign) ≤ found.1)

abbrev pub ReadsLongestSigns : Type 0
ReadsLongestSigns =
    ((b : ℕ) (bs : List ℕ) (found : Sign × ℕ) → sign_at b bs ≡ Some found → IsSpelledThere (b ∷ bs) found)
    × ((b : ℕ) (bs rest : List ℕ) (sign : Sign) → b ∷ bs ≡ spelled_sign sign ++ rest → IsAsLong sign (sign_at b bs))
