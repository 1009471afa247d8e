-- The reserved words, in groups of eight: 50 keywords (JLS 3.9), `true`, `false` (JLS 3.10.3), `null` (JLS 3.10.7).
use Rattle.std.specs.Prelude.{ℕ, List, Option, Some, None, if◌then◌else◌, codes}
use Rattle.std.specs.Str.{bytes_eq}
use Rattle.ls_lexer.specs.declared.word.Word.{Word}
use Rattle.ls_lexer.specs.declared.word.Word.TheVariants as words

abbrev pub or_else : Option Word → Option Word → Option Word
or_else None o = o
or_else (Some w) o = Some w

abbrev pub first_words : List ℕ → Option Word
first_words text =
    if bytes_eq text (codes "abstract") then Some words.Abstract
    else (if bytes_eq text (codes "continue") then Some words.Continue
    else (if bytes_eq text (codes "for") then Some words.For
    else (if bytes_eq text (codes "new") then Some words.New
    else (if bytes_eq text (codes "switch") then Some words.Switch
    else (if bytes_eq text (codes "assert") then Some words.Assert
    else (if bytes_eq text (codes "default") then Some words.Default
    else (if bytes_eq text (codes "if") then Some words.If
    else None)))))))

abbrev pub second_words : List ℕ → Option Word
second_words text =
    if bytes_eq text (codes "package") then Some words.Package
    else (if bytes_eq text (codes "synchronized") then Some words.Synchronized
    else (if bytes_eq text (codes "boolean") then Some words.Boolean
    else (if bytes_eq text (codes "do") then Some words.Do
    else (if bytes_eq text (codes "goto") then Some words.Goto
    else (if bytes_eq text (codes "private") then Some words.Private
    else (if bytes_eq text (codes "this") then Some words.This
    else (if bytes_eq text (codes "break") then Some words.Break
    else None)))))))

abbrev pub third_words : List ℕ → Option Word
third_words text =
    if bytes_eq text (codes "double") then Some words.Double
    else (if bytes_eq text (codes "implements") then Some words.Implements
    else (if bytes_eq text (codes "protected") then Some words.Protected
    else (if bytes_eq text (codes "throw") then Some words.Throw
    else (if bytes_eq text (codes "byte") then Some words.Byte
    else (if bytes_eq text (codes "else") then Some words.Else
    else (if bytes_eq text (codes "import") then Some words.Import
    else (if bytes_eq text (codes "public") then Some words.Public
    else None)))))))

abbrev pub fourth_words : List ℕ → Option Word
fourth_words text =
    if bytes_eq text (codes "throws") then Some words.Throws
    else (if bytes_eq text (codes "case") then Some words.Case
    else (if bytes_eq text (codes "enum") then Some words.Enum
    else (if bytes_eq text (codes "instanceof") then Some words.Instanceof
    else (if bytes_eq text (codes "return") then Some words.Return
    else (if bytes_eq text (codes "transient") then Some words.Transient
    else (if bytes_eq text (codes "catch") then Some words.Catch
    else (if bytes_eq text (codes "extends") then Some words.Extends
    else None)))))))

abbrev pub fifth_words : List ℕ → Option Word
fifth_words text =
    if bytes_eq text (codes "int") then Some words.Int
    else (if bytes_eq text (codes "short") then Some words.Short
    else (if bytes_eq text (codes "try") then Some words.Try
    else (if bytes_eq text (codes "char") then Some words.Char
    else (if bytes_eq text (codes "final") then Some words.Final
    else (if bytes_eq text (codes "interface") then Some words.Interface
    else (if bytes_eq text (codes "static") then Some words.Static
    else (if bytes_eq text (codes "void") then Some words.Void
    else None)))))))

abbrev pub sixth_words : List ℕ → Option Word
sixth_words text =
    if bytes_eq text (codes "class") then Some words.Class
    else (if bytes_eq text (codes "finally") then Some words.Finally
    else (if bytes_eq text (codes "long") then Some words.Long
    else (if bytes_eq text (codes "strictfp") then Some words.Strictfp
    else (if bytes_eq text (codes "volatile") then Some words.Volatile
    else (if bytes_eq text (codes "const") then Some words.Const
    else (if bytes_eq text (codes "float") then Some words.Float
    else (if bytes_eq text (codes "native") then Some words.Native
    else None)))))))

abbrev pub seventh_words : List ℕ → Option Word
seventh_words text =
    if bytes_eq text (codes "super") then Some words.Super
    else (if bytes_eq text (codes "while") then Some words.While
    else (if bytes_eq text (codes "true") then Some words.True
    else (if bytes_eq text (codes "false") then Some words.False
    else (if bytes_eq text (codes "null") then Some words.Null
    else None))))

-- the reserved word that is this text
abbrev pub reserved_word : List ℕ → Option Word
reserved_word text =
    or_else (first_words text)
    (or_else (second_words text)
    (or_else (third_words text)
    (or_else (fourth_words text)
    (or_else (fifth_words text)
    (or_else (sixth_words text)
    (seventh_words text))))))
