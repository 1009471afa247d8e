-- Members, classes and files: what is well-formed is read again.
use Rattle.std.proofs.Common.{◌≡◌, ◌+◌, ◌≤◌, Bool, true, false, List, [], ◌∷◌, Option, Some, None, refl}
use Rattle.ls_lexer.specs.declared.sign.Sign.TheVariants as signs
use Rattle.ls_lexer.specs.declared.word.Word.TheVariants as words
use Rattle.ls_lexer.specs.Lexemes.{Lexeme, Named, Reserved, Marked}
use Rattle.ls_tree.specs.Trees.{Text, Expression, Modifier, Public, Protected, Private, Final, Volatile, Annotation}
use Rattle.ls_tree.specs.Trees.{TypeName, Int, Boolean, BooleanArray, Class, Markable, Declarator, Items, Parameter}
use Rattle.ls_tree.specs.Trees.{Member, Fields, Method, Constructor, ClassTree, Dotted, Import, File}
use Rattle.ls_tree.specs.WellFormed.{most_nodes, WellFormedMember, WellFormedFile, WellFormedItems, items_height}
use Rattle.ls_parser_tokens.specs.Reading.{after_sign, after_word, starts, not_yet, many_from, many_at, behind_comma}
use Rattle.ls_parser_tokens.specs.Reading.{group_at}
use Rattle.ls_parser_declarations.specs.ReadingDeclarations.{starts_modifier}
use Rattle.ls_parser.specs.ReadingClasses.{parameter_at, parameters_at, starts_call, starts_locked, locked_at}
use Rattle.ls_parser.specs.ReadingClasses.{all_locked_at, method_at, typed_at, unmodified_at, member_at, class_at}
use Rattle.ls_parser.specs.ReadingClasses.{part_at, dotted_at, more_path, import_at, header_at, starts_import}
use Rattle.ls_parser.specs.ReadingClasses.{is_left, file_at}
use Rattle.ls_parser_expressions.proofs.Lists.{onto_all, many_from_complete}
use Rattle.ls_parser_declarations.proofs.OntoDeclarations.{onto_modifier, onto_type, onto_initial, onto_declarator}
use Rattle.ls_parser_declarations.proofs.OntoDeclarations.{onto_next_declarator}
use Rattle.ls_parser_statements.proofs.OntoStatements.{onto_block}
use Rattle.ls_parser.proofs.OntoClasses.{onto_parameter, next_parameter_longer, onto_next_parameter, onto_group}
use Rattle.ls_parser.proofs.OntoClasses.{onto_parameters, onto_result, onto_locked, locked_longer, onto_member}
use Rattle.ls_parser.proofs.OntoClasses.{member_longer, onto_class_tree, class_longer, onto_part, part_longer}
use Rattle.ls_parser.proofs.OntoClasses.{onto_dotted, onto_import, import_longer, onto_header, onto_file}
use Rattle.ls_parser_declarations.proofs.DeclarationsRead.{Anything}
use Rattle.ls_parser_statements.proofs.DeclarationsAgain.{anything, modifiers_complete, type_complete, type_no_modifier}
use Rattle.ls_parser_statements.proofs.DeclarationsAgain.{declarators_complete}
use Rattle.ls_parser_statements.proofs.StatementBeginnings.{modifiers_brace}
use Rattle.ls_parser_statements.proofs.StatementsAgain.{block_complete}
use Rattle.ls_parser.proofs.ClassesRead.{FormedClass}

abbrev Always : List Lexeme → Type 0
Always ks = Unit {0}

-- ---- parameters

parameter_complete : (p : Parameter) (rest : List Lexeme) → parameter_at (onto_parameter p rest) ≡ Some (p, rest)
parameter_complete p rest =
    rw (
      modifiers_complete p.modifiers (onto_type p.type_name (Named p.name ∷ rest))
          (type_no_modifier p.type_name (Named p.name ∷ rest)),
      type_complete p.type_name p.name rest,
    ) refl

modifiers_paren : (ms : List Modifier) (t : TypeName) (rest : List Lexeme) →
    after_sign signs.CloseParen (onto_all onto_modifier ms (onto_type t rest)) ≡ None
modifiers_paren [] Int rest = refl
modifiers_paren [] Boolean rest = refl
modifiers_paren [] BooleanArray rest = refl
modifiers_paren [] (Class text) rest = refl
modifiers_paren [] (Markable text) rest = refl
modifiers_paren (Public ∷ ms) t rest = refl
modifiers_paren (Protected ∷ ms) t rest = refl
modifiers_paren (Private ∷ ms) t rest = refl
modifiers_paren (Final ∷ ms) t rest = refl
modifiers_paren (Volatile ∷ ms) t rest = refl
modifiers_paren (Annotation name ∷ ms) t rest = refl

group_complete : (ps : List Parameter) (rest : List Lexeme) →
    group_at parameter_at (onto_group ps rest) ≡ Some (ps, rest)
group_complete [] rest = refl
group_complete (p ∷ ps) rest =
    let ks : List Lexeme = onto_all onto_next_parameter ps (Marked signs.CloseParen ∷ rest) in
    let others : many_from (p ∷ []) (not_yet signs.CloseParen) (behind_comma parameter_at) ks ≡
    Some (p ∷ ps, Marked signs.CloseParen ∷ rest) =
    many_from_complete onto_next_parameter Anything (not_yet signs.CloseParen) (behind_comma parameter_at) Always
    (λ q rest' formed follow. parameter_complete q rest') (λ q rest' formed. (refl, tt)) next_parameter_longer
    (p ∷ []) ps (Marked signs.CloseParen ∷ rest) (anything ps) refl tt in
    rw (modifiers_paren p.modifiers p.type_name (Named p.name ∷ ks), parameter_complete p ks, others) refl

parameters_complete : (ps : List Parameter) (rest : List Lexeme) →
    parameters_at (onto_parameters ps rest) ≡ Some (ps, rest)
parameters_complete ps rest = group_complete ps rest

-- ---- members

type_no_call : (t : TypeName) (name : Text) (rest : List Lexeme) → starts_call (onto_type t (Named name ∷ rest)) ≡ false
type_no_call Int name rest = refl
type_no_call Boolean name rest = refl
type_no_call BooleanArray name rest = refl
type_no_call (Class text) name rest = refl
type_no_call (Markable text) name rest = refl

type_no_void : (t : TypeName) (rest : List Lexeme) → after_word words.Void (onto_type t rest) ≡ None
type_no_void Int rest = refl
type_no_void Boolean rest = refl
type_no_void BooleanArray rest = refl
type_no_void (Class text) rest = refl
type_no_void (Markable text) rest = refl

more_no_paren : (ds : List Declarator) (rest : List Lexeme) →
    starts signs.OpenParen (onto_all onto_next_declarator ds (Marked signs.Semicolon ∷ rest)) ≡ false
more_no_paren [] rest = refl
more_no_paren (d ∷ ds) rest = refl

field_no_call : (name : Text) (value : Option Expression) (ds : List Declarator) (rest : List Lexeme) →
    starts_call (Named name ∷ onto_initial value (onto_all onto_next_declarator ds (Marked signs.Semicolon ∷ rest))) ≡
    false
field_no_call name None ds rest = more_no_paren ds rest
field_no_call name (Some value) ds rest = refl

-- after modifiers, a type and a name
typed : (modifiers : List Modifier) (t : TypeName) (name : Text) (rest : List Lexeme) →
    unmodified_at modifiers (onto_type t (Named name ∷ rest)) ≡ typed_at modifiers t (Named name ∷ rest)
typed modifiers t name rest =
    rw (type_no_call t name rest, type_no_void t (Named name ∷ rest), type_complete t name rest) refl

abbrev NoModifier : List Lexeme → Type 0
NoModifier ks = starts_modifier ks ≡ false

type_no_locked : (t : TypeName) (rest : List Lexeme) → starts_locked (onto_type t rest) ≡ false
type_no_locked Int rest = refl
type_no_locked Boolean rest = refl
type_no_locked BooleanArray rest = refl
type_no_locked (Class text) rest = refl
type_no_locked (Markable text) rest = refl

locked_complete : (ls : List (List Modifier)) (rest : List Lexeme) →
    starts_modifier rest ≡ false →
    starts_locked rest ≡ false →
    all_locked_at (onto_all onto_locked ls rest) ≡ Some (ls, rest)
locked_complete ls rest follow stop =
    many_from_complete onto_locked Anything starts_locked locked_at NoModifier
    (λ ms rest' p f. modifiers_complete ms rest' f) (λ ms rest' p. (refl, refl)) locked_longer
    [] ls rest (anything ls) stop follow

method_complete :
    (modifiers : List Modifier) (locked : List (List Modifier)) (result : Option TypeName) (name : Text)
    (parameters : List Parameter) (body : Items) (rest : List Lexeme) →
    WellFormedItems body →
    items_height body + 1 ≤ most_nodes
    → method_at modifiers locked result (Named name ∷ onto_parameters parameters (onto_block body rest)) ≡
    Some (Method modifiers locked result name parameters body, rest)
method_complete modifiers locked result name parameters body rest formed fits =
    rw (parameters_complete parameters (onto_block body rest), block_complete most_nodes body rest formed fits) refl

member_complete : (m : Member) (rest : List Lexeme) →
    WellFormedMember m →
    member_at (onto_member m rest) ≡ Some (m, rest)
member_complete (Fields d) rest formed =
    let more : List Lexeme = onto_all onto_next_declarator d.more (Marked signs.Semicolon ∷ rest) in
    let ks : List Lexeme = onto_declarator d.first more in
    rw (
      modifiers_complete d.modifiers (onto_type d.type_name ks) (type_no_modifier d.type_name ks),
      locked_complete [] (onto_type d.type_name ks) (type_no_modifier d.type_name ks) (type_no_locked d.type_name ks),
      typed d.modifiers d.type_name d.first.name (onto_initial d.first.value more),
      field_no_call d.first.name d.first.value d.more rest,
      declarators_complete most_nodes d rest formed.0 formed.1,
    ) refl
member_complete (Method modifiers [] None name parameters body) rest formed =
    let ks : List Lexeme = Reserved words.Void ∷ Named name ∷ onto_parameters parameters (onto_block body rest) in
    rw (
      modifiers_complete modifiers ks refl,
      locked_complete [] ks refl refl,
      method_complete modifiers [] None name parameters body rest formed.0 formed.1,
    ) refl
member_complete (Method modifiers [] (Some t) name parameters body) rest formed =
    let ks : List Lexeme = onto_parameters parameters (onto_block body rest) in
    rw (
      modifiers_complete modifiers (onto_type t (Named name ∷ ks)) (type_no_modifier t (Named name ∷ ks)),
      locked_complete [] (onto_type t (Named name ∷ ks)) (type_no_modifier t (Named name ∷ ks))
          (type_no_locked t (Named name ∷ ks)),
      typed modifiers t name ks,
      method_complete modifiers [] (Some t) name parameters body rest formed.0 formed.1,
    ) refl
member_complete (Method modifiers (l ∷ ls) None name parameters body) rest formed =
    let ks : List Lexeme = Reserved words.Void ∷ Named name ∷ onto_parameters parameters (onto_block body rest) in
    rw (
      modifiers_complete modifiers (onto_all onto_locked (l ∷ ls) ks) refl,
      locked_complete (l ∷ ls) ks refl refl,
      method_complete modifiers (l ∷ ls) None name parameters body rest formed.0 formed.1,
    ) refl
member_complete (Method modifiers (l ∷ ls) (Some t) name parameters body) rest formed =
    let ks : List Lexeme = onto_parameters parameters (onto_block body rest) in
    rw (
      modifiers_complete modifiers (onto_all onto_locked (l ∷ ls) (onto_type t (Named name ∷ ks))) refl,
      locked_complete (l ∷ ls) (onto_type t (Named name ∷ ks)) (type_no_modifier t (Named name ∷ ks))
          (type_no_locked t (Named name ∷ ks)),
      type_no_call t name ks,
      type_no_void t (Named name ∷ ks),
      type_complete t name ks,
      method_complete modifiers (l ∷ ls) (Some t) name parameters body rest formed.0 formed.1,
    ) refl
member_complete (Constructor modifiers name parameters body) rest formed =
    let ks : List Lexeme = Named name ∷ onto_parameters parameters (onto_block body rest) in
    rw (
      modifiers_complete modifiers ks refl,
      locked_complete [] ks refl refl,
      parameters_complete parameters (onto_block body rest),
      block_complete most_nodes body rest formed.0 formed.1,
    )
    refl

modifiers_void : (ms : List Modifier) (rest : List Lexeme) →
    after_sign signs.CloseBrace (onto_all onto_modifier ms (Reserved words.Void ∷ rest)) ≡ None
modifiers_void [] rest = refl
modifiers_void (Public ∷ ms) rest = refl
modifiers_void (Protected ∷ ms) rest = refl
modifiers_void (Private ∷ ms) rest = refl
modifiers_void (Final ∷ ms) rest = refl
modifiers_void (Volatile ∷ ms) rest = refl
modifiers_void (Annotation name ∷ ms) rest = refl

modifiers_locked : (ms : List Modifier) (rest : List Lexeme) →
    after_sign signs.CloseBrace (onto_all onto_modifier ms (Reserved words.Synchronized ∷ rest)) ≡ None
modifiers_locked [] rest = refl
modifiers_locked (Public ∷ ms) rest = refl
modifiers_locked (Protected ∷ ms) rest = refl
modifiers_locked (Private ∷ ms) rest = refl
modifiers_locked (Final ∷ ms) rest = refl
modifiers_locked (Volatile ∷ ms) rest = refl
modifiers_locked (Annotation name ∷ ms) rest = refl

member_first : (m : Member) (rest : List Lexeme) → not_yet signs.CloseBrace (onto_member m rest) ≡ true
member_first (Fields d) rest =
    rw (modifiers_brace d.modifiers d.type_name
    (onto_declarator d.first (onto_all onto_next_declarator d.more (Marked signs.Semicolon ∷ rest)))) refl
member_first (Method modifiers [] None name parameters body) rest =
    rw (modifiers_void modifiers (Named name ∷ onto_parameters parameters (onto_block body rest))) refl
member_first (Method modifiers (l ∷ ls) result name parameters body) rest =
    rw (modifiers_locked modifiers
    (onto_all onto_modifier l
    (onto_all onto_locked ls
    (onto_result result (Named name ∷ onto_parameters parameters (onto_block body rest)))))) refl
member_first (Method modifiers [] (Some t) name parameters body) rest =
    rw (modifiers_brace modifiers t (Named name ∷ onto_parameters parameters (onto_block body rest))) refl
member_first (Constructor modifiers name parameters body) rest =
    rw (modifiers_brace modifiers (Class name) (onto_parameters parameters (onto_block body rest))) refl

-- ---- classes

class_complete : (c : ClassTree) (rest : List Lexeme) →
    FormedClass c →
    class_at (onto_class_tree c rest) ≡ Some (c, rest)
class_complete c rest formed =
    let inside : List Lexeme = onto_all onto_member c.members (Marked signs.CloseBrace ∷ rest) in
    let members : many_at (not_yet signs.CloseBrace) member_at inside ≡
    Some (c.members, Marked signs.CloseBrace ∷ rest) =
    many_from_complete onto_member WellFormedMember (not_yet signs.CloseBrace) member_at Always
    (λ m rest' p follow. member_complete m rest' p) (λ m rest' p. (member_first m rest', tt)) member_longer
    [] c.members (Marked signs.CloseBrace ∷ rest) formed refl tt in
    rw (
      modifiers_complete c.modifiers (Reserved words.Class ∷ Named c.name ∷ Marked signs.OpenBrace ∷ inside) refl,
      members,
    ) refl

-- a class begins by no word that an import or a package begins by
record ClassFirst (ks : List Lexeme) : Type 0 where
  left : is_left ks ≡ true
  no_import : starts_import ks ≡ false
  no_package : after_word words.Package ks ≡ None

modifiers_class : (ms : List Modifier) (rest : List Lexeme) →
    ClassFirst (onto_all onto_modifier ms (Reserved words.Class ∷ rest))
modifiers_class [] rest = record { left = refl; no_import = refl; no_package = refl }
modifiers_class (Public ∷ ms) rest = record { left = refl; no_import = refl; no_package = refl }
modifiers_class (Protected ∷ ms) rest = record { left = refl; no_import = refl; no_package = refl }
modifiers_class (Private ∷ ms) rest = record { left = refl; no_import = refl; no_package = refl }
modifiers_class (Final ∷ ms) rest = record { left = refl; no_import = refl; no_package = refl }
modifiers_class (Volatile ∷ ms) rest = record { left = refl; no_import = refl; no_package = refl }
modifiers_class (Annotation name ∷ ms) rest = record { left = refl; no_import = refl; no_package = refl }

class_first : (c : ClassTree) (rest : List Lexeme) → ClassFirst (onto_class_tree c rest)
class_first c rest =
    modifiers_class c.modifiers (Named c.name ∷ Marked signs.OpenBrace ∷
    onto_all onto_member c.members (Marked signs.CloseBrace ∷ rest))

-- ---- packages and imports

part_complete : (t : Text) (rest : List Lexeme) → part_at (onto_part t rest) ≡ Some (t, rest)
part_complete t rest = refl

dotted_complete : (goes : List Lexeme → Bool) (d : Dotted) (rest : List Lexeme) →
    ((t : Text) (ks : List Lexeme) → goes (onto_part t ks) ≡ true) →
    goes rest ≡ false →
    dotted_at goes (onto_dotted d rest) ≡ Some (d, rest)
dotted_complete goes d rest starts stop =
    let more : many_at goes part_at (onto_all onto_part d.more rest) ≡ Some (d.more, rest) =
    many_from_complete onto_part Anything goes part_at Always (λ t rest' p follow. refl)
    (λ t rest' p. (starts t rest', tt)) part_longer
    [] d.more rest (anything d.more) stop tt in
    rw more refl

starred : (path : Dotted) (all : Bool) (rest : List Lexeme) →
    import_at (onto_import (record { path = path; all = all }) rest) ≡ Some (record { path = path; all = all }, rest)
starred path true rest =
    rw (dotted_complete more_path path (Marked signs.Dot ∷ Marked signs.Star ∷ Marked signs.Semicolon ∷ rest)
    (λ t ks. refl) refl) refl
starred path false rest = rw (dotted_complete more_path path (Marked signs.Semicolon ∷ rest) (λ t ks. refl) refl) refl

import_complete : (i : Import) (rest : List Lexeme) → import_at (onto_import i rest) ≡ Some (i, rest)
import_complete i rest = starred i.path i.all rest

header_complete : (name : Option Dotted) (rest : List Lexeme) →
    after_word words.Package rest ≡ None →
    header_at (onto_header name rest) ≡ Some (name, rest)
header_complete None rest stop = rw stop refl
header_complete (Some name) rest stop =
    rw (dotted_complete (not_yet signs.Semicolon) name (Marked signs.Semicolon ∷ rest) (λ t ks. refl) refl) refl

classes_no_import : (cs : List ClassTree) → starts_import (onto_all onto_class_tree cs []) ≡ false
classes_no_import [] = refl
classes_no_import (c ∷ cs) = let first = class_first c (onto_all onto_class_tree cs []) in first.no_import

classes_no_package : (cs : List ClassTree) → after_word words.Package (onto_all onto_class_tree cs []) ≡ None
classes_no_package [] = refl
classes_no_package (c ∷ cs) = let first = class_first c (onto_all onto_class_tree cs []) in first.no_package

no_package : (is : List Import) (cs : List ClassTree) →
    after_word words.Package (onto_all onto_import is (onto_all onto_class_tree cs [])) ≡ None
no_package [] cs = classes_no_package cs
no_package (i ∷ is) cs = refl

-- a file that is spelled is read again
pub file_complete : (f : File) → WellFormedFile f → file_at (onto_file f []) ≡ Some f
unfolding file_at
file_complete f formed =
    let classes : many_at is_left class_at (onto_all onto_class_tree f.classes []) ≡ Some (f.classes, []) =
    many_from_complete onto_class_tree FormedClass is_left class_at Always (λ c rest p follow. class_complete c rest p)
    (λ c rest p. (let first = class_first c rest in first.left, tt)) class_longer
    [] f.classes [] formed refl tt in
    let imports : many_at starts_import import_at
    (onto_all onto_import f.imports (onto_all onto_class_tree f.classes [])) ≡
    Some (f.imports, onto_all onto_class_tree f.classes []) =
    many_from_complete onto_import Anything starts_import import_at Always (λ i rest p follow. import_complete i rest)
    (λ i rest p. (refl, tt)) import_longer
    [] f.imports (onto_all onto_class_tree f.classes []) (anything f.imports) (classes_no_import f.classes) tt in
    rw (
      header_complete f.package_name (onto_all onto_import f.imports (onto_all onto_class_tree f.classes []))
          (no_package f.imports f.classes),
      imports,
      classes,
    ) refl
