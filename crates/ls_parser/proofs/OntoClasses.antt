-- The tokens of members, classes and files, and then the rest.
use Rattle.std.proofs.Common.{◌<◌, ◌≤◌, Bool, true, false, length, List, [], ◌∷◌, Option, Some, None, arith}
use Rattle.ls_lexer.specs.Lexemes.{Lexeme, Named, Reserved, Marked}
use Rattle.ls_lexer.specs.declared.sign.Sign.TheVariants as signs
use Rattle.ls_lexer.specs.declared.word.Word.TheVariants as words
use Rattle.ls_tree.specs.Trees
use Rattle.ls_tree.specs.Trees.{Text, Modifier, TypeName, Parameter, Member, Fields, Method, Constructor, ClassTree}
use Rattle.ls_tree.specs.Trees.{Dotted, Import, File}
use Rattle.ls_parser_expressions.proofs.Lists.{onto_all, onto_all_longer}
use Rattle.ls_parser_declarations.proofs.OntoDeclarations.{onto_modifier, modifier_longer, onto_type}
use Rattle.ls_parser_declarations.proofs.OntoDeclarations.{onto_declaration, declaration_longer}
use Rattle.ls_parser_statements.proofs.OntoStatements.{onto_block, items_longer}

-- a parameter, spelled onto tokens
abbrev pub onto_parameter : Parameter → List Lexeme → List Lexeme
onto_parameter p rest = onto_all onto_modifier p.modifiers (onto_type p.type_name (Named p.name ∷ rest))

-- a comma and a parameter, spelled onto tokens
abbrev pub onto_next_parameter : Parameter → List Lexeme → List Lexeme
onto_next_parameter p rest = Marked signs.Comma ∷ onto_parameter p rest

-- up to and with the closing parenthesis
abbrev pub onto_group : List Parameter → List Lexeme → List Lexeme
onto_group [] rest = Marked signs.CloseParen ∷ rest
onto_group (p ∷ ps) rest = onto_parameter p (onto_all onto_next_parameter ps (Marked signs.CloseParen ∷ rest))

-- parameters, spelled onto tokens
abbrev pub onto_parameters : List Parameter → List Lexeme → List Lexeme
onto_parameters ps rest = Marked signs.OpenParen ∷ onto_group ps rest

-- the result of a method, spelled onto tokens
abbrev pub onto_result : Option TypeName → List Lexeme → List Lexeme
onto_result None rest = Reserved words.Void ∷ rest
onto_result (Some type_name) rest = onto_type type_name rest

-- a `synchronized` and its modifiers, spelled onto tokens
abbrev pub onto_locked : List Modifier → List Lexeme → List Lexeme
onto_locked ms rest = Reserved words.Synchronized ∷ onto_all onto_modifier ms rest

-- a `synchronized` has a token
pub locked_longer : (ms : List Modifier) (rest : List Lexeme) → length rest < length (onto_locked ms rest)
locked_longer ms rest = omega (arith, onto_all_longer onto_modifier modifier_longer ms rest)

-- a member, spelled onto tokens
abbrev pub onto_member : Member → List Lexeme → List Lexeme
onto_member (Fields declaration) rest = onto_declaration declaration rest
onto_member (Method modifiers locked result name parameters body) rest =
    onto_all onto_modifier modifiers
    (onto_all onto_locked locked (onto_result result (Named name ∷ onto_parameters parameters (onto_block body rest))))
onto_member (Constructor modifiers name parameters body) rest =
    onto_all onto_modifier modifiers (Named name ∷ onto_parameters parameters (onto_block body rest))

-- a class, spelled onto tokens
abbrev pub onto_class_tree : ClassTree → List Lexeme → List Lexeme
onto_class_tree c rest =
    onto_all onto_modifier c.modifiers (Reserved words.Class ∷ Named c.name ∷ Marked signs.OpenBrace ∷
    onto_all onto_member c.members (Marked signs.CloseBrace ∷ rest))

-- a dot and a part of a name, spelled onto tokens
abbrev pub onto_part : Text → List Lexeme → List Lexeme
onto_part name rest = Marked signs.Dot ∷ Named name ∷ rest

-- a dotted name, spelled onto tokens
abbrev pub onto_dotted : Dotted → List Lexeme → List Lexeme
onto_dotted d rest = Named d.first ∷ onto_all onto_part d.more rest

-- the star of an import, spelled onto tokens
abbrev pub onto_star : Bool → List Lexeme → List Lexeme
onto_star true rest = Marked signs.Dot ∷ Marked signs.Star ∷ rest
onto_star false rest = rest

-- an import, spelled onto tokens
abbrev pub onto_import : Import → List Lexeme → List Lexeme
onto_import i rest = Reserved words.Import ∷ onto_dotted i.path (onto_star i.all (Marked signs.Semicolon ∷ rest))

-- a package, spelled onto tokens
abbrev pub onto_header : Option Dotted → List Lexeme → List Lexeme
onto_header None rest = rest
onto_header (Some name) rest = Reserved words.Package ∷ onto_dotted name (Marked signs.Semicolon ∷ rest)

-- a file, spelled onto tokens
abbrev pub onto_file : File → List Lexeme → List Lexeme
onto_file f rest = onto_header f.package_name (onto_all onto_import f.imports (onto_all onto_class_tree f.classes rest))

-- ---- lengths

type_longer : (t : TypeName) (rest : List Lexeme) → length rest < length (onto_type t rest)
type_longer Trees.Int rest = omega arith
type_longer Trees.Boolean rest = omega arith
type_longer Trees.BooleanArray rest = omega arith
type_longer (Trees.Class name) rest = omega arith
type_longer (Trees.Markable name) rest = omega arith

-- a parameter has a token
pub parameter_longer : (p : Parameter) (rest : List Lexeme) → length rest < length (onto_parameter p rest)
parameter_longer p rest =
    omega (
      arith,
      onto_all_longer onto_modifier modifier_longer p.modifiers (onto_type p.type_name (Named p.name ∷ rest)),
      type_longer p.type_name (Named p.name ∷ rest),
    )

-- so has a parameter after a comma
pub next_parameter_longer : (p : Parameter) (rest : List Lexeme) → length rest < length (onto_next_parameter p rest)
next_parameter_longer p rest = omega (arith, parameter_longer p rest)

group_longer : (ps : List Parameter) (rest : List Lexeme) → length rest < length (onto_group ps rest)
group_longer [] rest = omega arith
group_longer (p ∷ ps) rest =
    omega (
      arith,
      parameter_longer p (onto_all onto_next_parameter ps (Marked signs.CloseParen ∷ rest)),
      onto_all_longer onto_next_parameter next_parameter_longer ps (Marked signs.CloseParen ∷ rest),
    )

result_longer : (result : Option TypeName) (rest : List Lexeme) → length rest < length (onto_result result rest)
result_longer None rest = omega arith
result_longer (Some t) rest = type_longer t rest

-- a member has a token
pub member_longer : (m : Member) (rest : List Lexeme) → length rest < length (onto_member m rest)
member_longer (Fields declaration) rest = declaration_longer declaration rest
member_longer (Method modifiers locked result name parameters body) rest =
    let ks : List Lexeme = Named name ∷ onto_parameters parameters (onto_block body rest) in
    omega (
      arith,
      onto_all_longer onto_modifier modifier_longer modifiers (onto_all onto_locked locked (onto_result result ks)),
      onto_all_longer onto_locked locked_longer locked (onto_result result ks),
      result_longer result ks,
      group_longer parameters (onto_block body rest),
      items_longer body (Marked signs.CloseBrace ∷ rest),
    )
member_longer (Constructor modifiers name parameters body) rest =
    let ks : List Lexeme = Named name ∷ onto_parameters parameters (onto_block body rest) in
    omega (
      arith,
      onto_all_longer onto_modifier modifier_longer modifiers ks,
      group_longer parameters (onto_block body rest),
      items_longer body (Marked signs.CloseBrace ∷ rest),
    )

-- a class has a token
pub class_longer : (c : ClassTree) (rest : List Lexeme) → length rest < length (onto_class_tree c rest)
class_longer c rest =
    let inside : List Lexeme = onto_all onto_member c.members (Marked signs.CloseBrace ∷ rest) in
    omega (
      arith,
      onto_all_longer onto_modifier modifier_longer c.modifiers (Reserved words.Class ∷ Named c.name ∷
          Marked signs.OpenBrace ∷ inside),
      onto_all_longer onto_member member_longer c.members (Marked signs.CloseBrace ∷ rest),
    )

-- a part of a name has a token
pub part_longer : (t : Text) (rest : List Lexeme) → length rest < length (onto_part t rest)
part_longer t rest = omega arith

star_longer : (all : Bool) (rest : List Lexeme) → length rest ≤ length (onto_star all rest)
star_longer true rest = omega arith
star_longer false rest = omega arith

-- an import has a token
pub import_longer : (i : Import) (rest : List Lexeme) → length rest < length (onto_import i rest)
import_longer i rest =
    let ks : List Lexeme = onto_star i.all (Marked signs.Semicolon ∷ rest) in
    omega (
      arith,
      onto_all_longer onto_part part_longer i.path.more ks,
      star_longer i.all (Marked signs.Semicolon ∷ rest),
    )
