-- Reading of modifiers, types and declarations.
use Rattle.std.specs.Prelude.{Bool, false, ◌&&◌, ◌||◌, List, [], ◌∷◌, Option, Some, None, is_some, if◌then◌else◌}
use Rattle.ls_lexer.specs.declared.word.Word.{Word}
use Rattle.ls_lexer.specs.declared.word.Word.TheVariants as words
use Rattle.ls_lexer.specs.declared.sign.Sign.TheVariants as signs
use Rattle.ls_lexer.specs.Lexemes.{Lexeme, Named, Numeral, Reserved, Marked}
use Rattle.ls_tree.specs.Trees.{Text, Expression, Modifier, Public, Protected, Private, Final, Volatile, Annotation}
use Rattle.ls_tree.specs.Trees.{TypeName, Int, Boolean, BooleanArray, Class, Markable, Declarator, Declaration}
use Rattle.ls_parser_tokens.specs.Reading.{◌>>=◌, Reader, given, after_sign, after_word, name_at, starts, many_at}
use Rattle.ls_parser_tokens.specs.Reading.{behind_comma, not_yet}
use Rattle.ls_parser_expressions.specs.ReadingExpressions.{is_markable, class_at}

-- ---- modifiers and types

abbrev pub modifier_of_word : Word → Option Modifier
modifier_of_word words.Public = Some Public
modifier_of_word words.Protected = Some Protected
modifier_of_word words.Private = Some Private
modifier_of_word words.Final = Some Final
modifier_of_word words.Volatile = Some Volatile
modifier_of_word _ = None

abbrev pub modifier_word_at : Reader Modifier
modifier_word_at [] = None
modifier_word_at (Reserved word ∷ ks) = modifier_of_word word >>= λ m. Some (m, ks)
modifier_word_at (Named text ∷ ks) = None
modifier_word_at (Numeral text ∷ ks) = None
modifier_word_at (Marked sign ∷ ks) = None

abbrev pub starts_modifier : List Lexeme → Bool
starts_modifier ks = is_some (modifier_word_at ks) || starts signs.At ks

abbrev pub annotation_at : Reader Modifier
annotation_at ks = after_sign signs.At ks >>= λ rest. name_at rest >>= λ name. Some (Annotation name.0, name.1)

abbrev pub modifier_at : Reader Modifier
modifier_at ks = given (modifier_word_at ks) (λ m. Some m) (annotation_at ks)

abbrev pub modifiers_at : Reader (List Modifier)
modifiers_at ks = many_at starts_modifier modifier_at ks

-- what comes after `boolean`
abbrev pub boolean_at : Reader TypeName
boolean_at ks =
    given (after_sign signs.OpenBracket ks)
    (λ rest. after_sign signs.CloseBracket rest >>= λ end. Some (BooleanArray, end))
    (Some (Boolean, ks))

-- what comes after the name of a type
abbrev pub named_type_at : Text → Reader TypeName
named_type_at text ks =
    if is_markable text && starts signs.Less ks
    then (class_at ks >>= λ name. Some (Markable name.0, name.1))
    else Some (Class text, ks)

abbrev pub type_at : Reader TypeName
type_at ks =
    given (name_at ks) (λ name. named_type_at name.0 name.1)
    (given (after_word words.Int ks) (λ rest. Some (Int, rest))
    (after_word words.Boolean ks >>= λ rest. boolean_at rest))

-- ---- declarations

abbrev pub declarator_of : Text → Option Expression → Declarator
declarator_of name value = record { name = name; value = value }

abbrev pub declarator_at : Reader Expression → Reader Declarator
declarator_at value ks =
    name_at ks >>= λ name. given (after_sign signs.Assign name.1)
    (λ rest. value rest >>= λ v. Some (declarator_of name.0 (Some v.0), v.1))
    (Some (declarator_of name.0 None, name.1))

abbrev pub declaration_of : List Modifier → TypeName → Declarator → List Declarator → Declaration
declaration_of modifiers type_name first more =
    record { modifiers = modifiers; type_name = type_name; first = first; more = more }

-- declarators, each after a comma, and a semicolon
abbrev pub more_declarators_at : Reader Expression → Reader (List Declarator)
more_declarators_at value ks =
    many_at (not_yet signs.Semicolon) (behind_comma (declarator_at value)) ks >>= λ more.
    after_sign signs.Semicolon more.1 >>= λ rest. Some (more.0, rest)

-- declarators and a semicolon
abbrev pub declarator_list_at : Reader Expression → Reader (Declarator × List Declarator)
declarator_list_at value ks =
    declarator_at value ks >>= λ first.
    many_at (not_yet signs.Semicolon) (behind_comma (declarator_at value)) first.1 >>= λ more.
    after_sign signs.Semicolon more.1 >>= λ rest. Some ((first.0, more.0), rest)

-- what comes after modifiers and a type
abbrev pub declarators_at : Reader Expression → List Modifier → TypeName → Reader Declaration
declarators_at value modifiers type_name ks =
    declarator_at value ks >>= λ first.
    many_at (not_yet signs.Semicolon) (behind_comma (declarator_at value)) first.1 >>= λ more.
    after_sign signs.Semicolon more.1 >>= λ rest. Some (declaration_of modifiers type_name first.0 more.0, rest)

abbrev pub declaration_at : Reader Expression → Reader Declaration
declaration_at value ks =
    modifiers_at ks >>= λ modifiers. type_at modifiers.1 >>= λ type_name.
    declarators_at value modifiers.0 type_name.0 type_name.1

abbrev pub starts_type : List Lexeme → Bool
starts_type ks = is_some (after_word words.Int ks) || is_some (after_word words.Boolean ks)

-- two names, or a name and `<`
abbrev pub named_declaration : List Lexeme → Bool
named_declaration ks = given (name_at ks) (λ name. is_some (name_at name.1) || starts signs.Less name.1) false

abbrev pub starts_declaration : List Lexeme → Bool
starts_declaration ks = starts_modifier ks || starts_type ks || named_declaration ks
