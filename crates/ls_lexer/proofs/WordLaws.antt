-- Reserved words are read as they are spelled.
use Rattle.std.proofs.Common.{◌≡◌, ℕ, cond, List, Option, Some, None, refl, sym, ap, ◌∙◌, inl, inr}
use Rattle.std.specs.Prelude.{codes, if◌then◌else◌}
use Rattle.std.specs.Str.{bytes_eq}
use Rattle.std.proofs.lemmas.Bool.{cases_Bool}
use Rattle.std.proofs.lemmas.Slice.Eq.{bytes_eq-Decides}
use Rattle.ls_lexer.specs.declared.word.Word.{Word}
use Rattle.ls_lexer.specs.declared.word.Word.TheVariants as words
use Rattle.ls_lexer.specs.Words.{or_else, first_words, second_words, third_words, fourth_words, fifth_words}
use Rattle.ls_lexer.specs.Words.{sixth_words, seventh_words, reserved_word}
use Rattle.ls_lexer.specs.Spelling.{spelled_word, ReadsWords}

abbrev Reads : List ℕ → Option Word → Type 0
Reads text o = (w : Word) → o ≡ Some w → text ≡ spelled_word w

none : (text : List ℕ) → Reads text None
none text w e = absurd cc

some_is : {A : Type 0} (x y : A) → ◌≡◌ {A = Option A} (Some x) (Some y) → x ≡ y
some_is x y e = cc

one : (text k : List ℕ) (v : Word) (o : Option Word) →
    k ≡ spelled_word v →
    Reads text o →
    Reads text (if bytes_eq text k then Some v else o)
one text k v o is rest w e =
    elim (cases_Bool (bytes_eq text k)) [
      | inl h ↦
          let same : Some v ≡ Some w = sym (ap (λ t. cond t (Some v) o) h) ∙ e in
          (bytes_eq-Decides text k).0 h ∙ is ∙ ap spelled_word (some_is v w same)
      | inr h ↦ rest w (sym (ap (λ t. cond t (Some v) o) h) ∙ e)
    ]

or_reads : (text : List ℕ) (a b : Option Word) → Reads text a → Reads text b → Reads text (or_else a b)
or_reads text None b f g w e = g w e
or_reads text (Some v) b f g w e = f w e

first_words_read : (text : List ℕ) → Reads text (first_words text)
first_words_read text =
    one text (codes "abstract") words.Abstract _ refl
    (one text (codes "continue") words.Continue _ refl
    (one text (codes "for") words.For _ refl
    (one text (codes "new") words.New _ refl
    (one text (codes "switch") words.Switch _ refl
    (one text (codes "assert") words.Assert _ refl
    (one text (codes "default") words.Default _ refl
    (one text (codes "if") words.If _ refl
    (none text))))))))

second_words_read : (text : List ℕ) → Reads text (second_words text)
second_words_read text =
    one text (codes "package") words.Package _ refl
    (one text (codes "synchronized") words.Synchronized _ refl
    (one text (codes "boolean") words.Boolean _ refl
    (one text (codes "do") words.Do _ refl
    (one text (codes "goto") words.Goto _ refl
    (one text (codes "private") words.Private _ refl
    (one text (codes "this") words.This _ refl
    (one text (codes "break") words.Break _ refl
    (none text))))))))

third_words_read : (text : List ℕ) → Reads text (third_words text)
third_words_read text =
    one text (codes "double") words.Double _ refl
    (one text (codes "implements") words.Implements _ refl
    (one text (codes "protected") words.Protected _ refl
    (one text (codes "throw") words.Throw _ refl
    (one text (codes "byte") words.Byte _ refl
    (one text (codes "else") words.Else _ refl
    (one text (codes "import") words.Import _ refl
    (one text (codes "public") words.Public _ refl
    (none text))))))))

fourth_words_read : (text : List ℕ) → Reads text (fourth_words text)
fourth_words_read text =
    one text (codes "throws") words.Throws _ refl
    (one text (codes "case") words.Case _ refl
    (one text (codes "enum") words.Enum _ refl
    (one text (codes "instanceof") words.Instanceof _ refl
    (one text (codes "return") words.Return _ refl
    (one text (codes "transient") words.Transient _ refl
    (one text (codes "catch") words.Catch _ refl
    (one text (codes "extends") words.Extends _ refl
    (none text))))))))

fifth_words_read : (text : List ℕ) → Reads text (fifth_words text)
fifth_words_read text =
    one text (codes "int") words.Int _ refl
    (one text (codes "short") words.Short _ refl
    (one text (codes "try") words.Try _ refl
    (one text (codes "char") words.Char _ refl
    (one text (codes "final") words.Final _ refl
    (one text (codes "interface") words.Interface _ refl
    (one text (codes "static") words.Static _ refl
    (one text (codes "void") words.Void _ refl
    (none text))))))))

sixth_words_read : (text : List ℕ) → Reads text (sixth_words text)
sixth_words_read text =
    one text (codes "class") words.Class _ refl
    (one text (codes "finally") words.Finally _ refl
    (one text (codes "long") words.Long _ refl
    (one text (codes "strictfp") words.Strictfp _ refl
    (one text (codes "volatile") words.Volatile _ refl
    (one text (codes "const") words.Const _ refl
    (one text (codes "float") words.Float _ refl
    (one text (codes "native") words.Native _ refl
    (none text))))))))

seventh_words_read : (text : List ℕ) → Reads text (seventh_words text)
seventh_words_read text =
    one text (codes "super") words.Super _ refl
    (one text (codes "while") words.While _ refl
    (one text (codes "true") words.True _ refl
    (one text (codes "false") words.False _ refl
    (one text (codes "null") words.Null _ refl
    (none text)))))

reads : (text : List ℕ) → Reads text (reserved_word text)
reads text =
    (or_reads text _ _ (first_words_read text)
    (or_reads text _ _ (second_words_read text)
    (or_reads text _ _ (third_words_read text)
    (or_reads text _ _ (fourth_words_read text)
    (or_reads text _ _ (fifth_words_read text)
    (or_reads text _ _ (sixth_words_read text)
    (seventh_words_read text)))))))

spelled : (w : Word) → reserved_word (spelled_word w) ≡ Some w
spelled words.Abstract = refl
spelled words.Continue = refl
spelled words.For = refl
spelled words.New = refl
spelled words.Switch = refl
spelled words.Assert = refl
spelled words.Default = refl
spelled words.If = refl
spelled words.Package = refl
spelled words.Synchronized = refl
spelled words.Boolean = refl
spelled words.Do = refl
spelled words.Goto = refl
spelled words.Private = refl
spelled words.This = refl
spelled words.Break = refl
spelled words.Double = refl
spelled words.Implements = refl
spelled words.Protected = refl
spelled words.Throw = refl
spelled words.Byte = refl
spelled words.Else = refl
spelled words.Import = refl
spelled words.Public = refl
spelled words.Throws = refl
spelled words.Case = refl
spelled words.Enum = refl
spelled words.Instanceof = refl
spelled words.Return = refl
spelled words.Transient = refl
spelled words.Catch = refl
spelled words.Extends = refl
spelled words.Int = refl
spelled words.Short = refl
spelled words.Try = refl
spelled words.Char = refl
spelled words.Final = refl
spelled words.Interface = refl
spelled words.Static = refl
spelled words.Void = refl
spelled words.Class = refl
spelled words.Finally = refl
spelled words.Long = refl
spelled words.Strictfp = refl
spelled words.Volatile = refl
spelled words.Const = refl
spelled words.Float = refl
spelled words.Native = refl
spelled words.Super = refl
spelled words.While = refl
spelled words.True = refl
spelled words.False = refl
spelled words.Null = refl

-- the law: reserved words are read as they are spelled
pub reads_words : ReadsWords
reads_words text word = (reads text word, λ is. ap reserved_word is ∙ spelled word)
