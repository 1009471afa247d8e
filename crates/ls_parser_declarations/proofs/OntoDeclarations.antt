-- The tokens of modifiers, types and declarations, and then the rest.
use Rattle.std.proofs.Common.{◌<◌, ◌≤◌, length, List, ◌∷◌, Option, Some, None, arith}
use Rattle.ls_lexer.specs.Lexemes.{Lexeme, Named, Reserved, Marked}
use Rattle.ls_lexer.specs.declared.sign.Sign.TheVariants as signs
use Rattle.ls_lexer.specs.declared.word.Word.TheVariants as words
use Rattle.ls_tree.specs.Trees.{Expression, Modifier, Public, Protected, Private, Final, Volatile, Annotation}
use Rattle.ls_tree.specs.Trees.{TypeName, Int, Boolean, BooleanArray, Class, Markable, Declarator, Declaration}
use Rattle.ls_parser_expressions.specs.ReadingExpressions.{markable_name}
use Rattle.ls_parser_expressions.proofs.Onto.{onto, onto_class, onto_longer}
use Rattle.ls_parser_expressions.proofs.Lists.{onto_all, onto_all_longer}

-- a modifier, spelled onto tokens
abbrev pub onto_modifier : Modifier → List Lexeme → List Lexeme
onto_modifier Public rest = Reserved words.Public ∷ rest
onto_modifier Protected rest = Reserved words.Protected ∷ rest
onto_modifier Private rest = Reserved words.Private ∷ rest
onto_modifier Final rest = Reserved words.Final ∷ rest
onto_modifier Volatile rest = Reserved words.Volatile ∷ rest
onto_modifier (Annotation name) rest = Marked signs.At ∷ Named name ∷ rest

-- a type, spelled onto tokens
abbrev pub onto_type : TypeName → List Lexeme → List Lexeme
onto_type Int rest = Reserved words.Int ∷ rest
onto_type Boolean rest = Reserved words.Boolean ∷ rest
onto_type BooleanArray rest = Reserved words.Boolean ∷ Marked signs.OpenBracket ∷ Marked signs.CloseBracket ∷ rest
onto_type (Class name) rest = Named name ∷ rest
onto_type (Markable name) rest = Named markable_name ∷ onto_class name rest

-- the first value of a variable, spelled onto tokens
abbrev pub onto_initial : Option Expression → List Lexeme → List Lexeme
onto_initial None rest = rest
onto_initial (Some value) rest = Marked signs.Assign ∷ onto value rest

-- a declarator, spelled onto tokens
abbrev pub onto_declarator : Declarator → List Lexeme → List Lexeme
onto_declarator d rest = Named d.name ∷ onto_initial d.value rest

-- a comma and a declarator, spelled onto tokens
abbrev pub onto_next_declarator : Declarator → List Lexeme → List Lexeme
onto_next_declarator d rest = Marked signs.Comma ∷ onto_declarator d rest

-- a declaration, spelled onto tokens
abbrev pub onto_declaration : Declaration → List Lexeme → List Lexeme
onto_declaration d rest =
    onto_all onto_modifier d.modifiers
    (onto_type d.type_name
    (onto_declarator d.first (onto_all onto_next_declarator d.more (Marked signs.Semicolon ∷ rest))))

-- ---- lengths

pub modifier_longer : (m : Modifier) (rest : List Lexeme) → length rest < length (onto_modifier m rest)
modifier_longer (Annotation name) rest = omega arith
modifier_longer Public rest = omega arith
modifier_longer Protected rest = omega arith
modifier_longer Private rest = omega arith
modifier_longer Final rest = omega arith
modifier_longer Volatile rest = omega arith

type_longer : (t : TypeName) (rest : List Lexeme) → length rest < length (onto_type t rest)
type_longer Int rest = omega arith
type_longer Boolean rest = omega arith
type_longer BooleanArray rest = omega arith
type_longer (Class name) rest = omega arith
type_longer (Markable name) rest = omega arith

initial_longer : (value : Option Expression) (rest : List Lexeme) → length rest ≤ length (onto_initial value rest)
initial_longer None rest = omega arith
initial_longer (Some value) rest = omega (arith, onto_longer value rest)

-- a declarator has a token
pub declarator_longer : (d : Declarator) (rest : List Lexeme) → length rest < length (onto_declarator d rest)
declarator_longer d rest = omega (arith, initial_longer d.value rest)

-- so has a declarator after a comma
pub next_declarator_longer : (d : Declarator) (rest : List Lexeme) → length rest < length (onto_next_declarator d rest)
next_declarator_longer d rest = omega (arith, declarator_longer d rest)

-- a declaration has a token
pub declaration_longer : (d : Declaration) (rest : List Lexeme) → length rest < length (onto_declaration d rest)
declaration_longer d rest =
    let ks1 : List Lexeme = onto_all onto_next_declarator d.more (Marked signs.Semicolon ∷ rest) in
    let ks2 : List Lexeme = onto_declarator d.first ks1 in
    let ks3 : List Lexeme = onto_type d.type_name ks2 in
    omega (
      arith,
      onto_all_longer onto_modifier modifier_longer d.modifiers ks3,
      type_longer d.type_name ks2,
      declarator_longer d.first ks1,
      onto_all_longer onto_next_declarator next_declarator_longer d.more
          (Marked signs.Semicolon ∷ rest),
    )
