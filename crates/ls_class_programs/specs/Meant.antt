-- The class of a text that is meant: the one that no other class names.
use Rattle.std.specs.Prelude.{ℕ, ◌+◌, ◌==◌, ◌&&◌, ◌||◌, nat_lt, not, cond, Bool, true, false, List, [], ◌∷◌, bytes_eq}
use Rattle.std.specs.Prelude.{Option, Some, None, map}
use Rattle.ls_lexer.specs.Lexemes.{Lexeme, Named, Numeral, Reserved, Marked}
use Rattle.ls_lexer.specs.declared.word.Word.{Word}
use Rattle.ls_lexer.specs.declared.word.Word.TheVariants as words
use Rattle.ls_tree.specs.Trees.{ClassTree, Text}

abbrev pub is_class_word : Word → Bool
is_class_word words.Class = true
is_class_word _ = false

-- whether a token is the word `class`
abbrev pub opens_class : Lexeme → Bool
opens_class (Named text) = false
opens_class (Numeral text) = false
opens_class (Reserved word) = is_class_word word
opens_class (Marked sign) = false

-- whether a token is this name
abbrev pub is_name : Text → Lexeme → Bool
is_name name (Named text) = bytes_eq text name
is_name name (Numeral text) = false
is_name name (Reserved word) = false
is_name name (Marked sign) = false

-- After so many words `class` the text is that of a class, and of another one than this. The first class has number 1.
abbrev pub is_other : ℕ → ℕ → Bool
is_other class at = nat_lt 0 at && not (at == class)

-- whether the name stands in the text of another class; so many words `class` come before these tokens
abbrev pub is_named : ℕ → Text → ℕ → List Lexeme → Bool
is_named class name at [] = false
is_named class name at (k ∷ ks) =
    (is_other class at && is_name name k) || is_named class name (cond (opens_class k) (at + 1) at) ks

-- whether no other class names the class of this number and name
abbrev pub is_free : List Lexeme → ℕ → Text → Bool
is_free ks class name = not (is_named class name 0 ks)

-- the places of those that no other class names; the first of these names is that of the class at this place, from 0
abbrev pub frees : List Lexeme → ℕ → List Text → List ℕ
frees ks i [] = []
frees ks i (name ∷ names) = cond (is_free ks (i + 1) name) (i ∷ frees ks (i + 1) names) (frees ks (i + 1) names)

-- the only one
abbrev pub only : List ℕ → Option ℕ
only [] = None
only (i ∷ []) = Some i
only (i ∷ j ∷ more) = None

abbrev pub names_of : List ClassTree → List Text
names_of classes = map (λ (c : ClassTree). c.name) classes

-- the place of the one class that no other class names
abbrev pub meant : List Lexeme → List ClassTree → Option ℕ
meant ks classes = only (frees ks 0 (names_of classes))
