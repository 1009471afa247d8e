-- The tokens of a tree and the rest are what spells it, and the rest.
use Rattle.std.proofs.Common.{◌≡◌, Bool, true, false, List, [], ◌∷◌, ◌++◌, Option, Some, None, refl, sym, ap, ◌∙◌}
use Rattle.std.proofs.Common.{append_assoc}
use Rattle.std.specs.List.{flat_map}
use Rattle.std.proofs.lemmas.List.{append-nil}
use Rattle.ls_lexer.specs.declared.sign.Sign.TheVariants as signs
use Rattle.ls_lexer.specs.declared.word.Word.TheVariants as words
use Rattle.ls_lexer.specs.Lexemes.{Lexeme, Named, Reserved, Marked}
use Rattle.ls_tree.specs.Trees.{Text, Expression, Modifier, Public, Protected, Private, Final, Volatile, Annotation}
use Rattle.ls_tree.specs.Trees.{TypeName, Int, Boolean, BooleanArray, Class, Markable, Declarator, Declaration}
use Rattle.ls_tree.specs.Trees.{Simple, Statement, Block, Empty, If, IfElse, While, For, Break, Continue, Return, Try}
use Rattle.ls_tree.specs.Trees.{Perform, Synchronized, Assign, Add, Count, Evaluate, Opening, Declares, Performs}
use Rattle.ls_tree.specs.Trees.{Items, NoItem, Do, Declare, Parameter, Member, Fields, Method, Constructor, ClassTree}
use Rattle.ls_tree.specs.Trees.{Dotted, Import, File}
use Rattle.ls_parser_spelling.specs.Spelling.{spell_expression, spell_modifier, spell_type, spell_initial}
use Rattle.ls_parser_spelling.specs.Spelling.{spell_declarator, spell_declaration, spell_label, spell_label_before}
use Rattle.ls_parser_spelling.specs.Spelling.{spell_value, spell_simple, spell_simples, spell_opening, spell_head}
use Rattle.ls_parser_spelling.specs.Spelling.{count_sign, spell_statement, spell_items, in_parens, in_braces}
use Rattle.ls_parser_spelling.specs.Spelling.{spell_parameter, spell_parameters, spell_result, spell_locked}
use Rattle.ls_parser_spelling.specs.Spelling.{spell_member, spell_class, spell_dotted, spell_all, spell_import}
use Rattle.ls_parser_spelling.specs.Spelling.{spell_package, spell}
use Rattle.ls_parser_expressions.proofs.Onto.{onto, onto_spells}
use Rattle.ls_parser_expressions.proofs.Lists.{onto_all, onto_all_spells}
use Rattle.ls_parser_declarations.proofs.OntoDeclarations.{onto_modifier, onto_type, onto_initial, onto_declarator}
use Rattle.ls_parser_declarations.proofs.OntoDeclarations.{onto_next_declarator, onto_declaration}
use Rattle.ls_parser_statements.proofs.OntoStatements.{onto_label, onto_label_before, onto_value, onto_condition}
use Rattle.ls_parser_statements.proofs.OntoStatements.{onto_simple, onto_next_simple, onto_simples, onto_opening}
use Rattle.ls_parser_statements.proofs.OntoStatements.{onto_head, onto_statement, onto_items, onto_block}
use Rattle.ls_parser.proofs.OntoClasses.{onto_parameter, onto_next_parameter, onto_group, onto_parameters}
use Rattle.ls_parser.proofs.OntoClasses.{onto_result, onto_locked, onto_member, onto_class_tree, onto_part}
use Rattle.ls_parser.proofs.OntoClasses.{onto_dotted, onto_star, onto_import, onto_header, onto_file}

modifier_spells : (m : Modifier) (rest : List Lexeme) → onto_modifier m rest ≡ spell_modifier m ++ rest
modifier_spells Public rest = refl
modifier_spells Protected rest = refl
modifier_spells Private rest = refl
modifier_spells Final rest = refl
modifier_spells Volatile rest = refl
modifier_spells (Annotation name) rest = refl

modifiers_spell : (ms : List Modifier) (rest : List Lexeme) →
    onto_all onto_modifier ms rest ≡ flat_map spell_modifier ms ++ rest
modifiers_spell ms rest = onto_all_spells onto_modifier spell_modifier modifier_spells ms rest

type_spells : (t : TypeName) (rest : List Lexeme) → onto_type t rest ≡ spell_type t ++ rest
type_spells Int rest = refl
type_spells Boolean rest = refl
type_spells BooleanArray rest = refl
type_spells (Class name) rest = refl
type_spells (Markable name) rest = refl

initial_spells : (value : Option Expression) (rest : List Lexeme) →
    onto_initial value rest ≡ spell_initial value ++ rest
initial_spells None rest = refl
initial_spells (Some value) rest = ap (λ (ks : List Lexeme). Marked signs.Assign ∷ ks) (onto_spells value rest)

declarator_spells : (d : Declarator) (rest : List Lexeme) → onto_declarator d rest ≡ spell_declarator d ++ rest
declarator_spells d rest = ap (λ (ks : List Lexeme). Named d.name ∷ ks) (initial_spells d.value rest)

more_spells : (ds : List Declarator) (rest : List Lexeme) →
    onto_all onto_next_declarator ds rest ≡ flat_map (λ m. Marked signs.Comma ∷ spell_declarator m) ds ++ rest
more_spells ds rest =
    onto_all_spells onto_next_declarator (λ m. Marked signs.Comma ∷ spell_declarator m)
    (λ d rest'. ap (λ (ks : List Lexeme). Marked signs.Comma ∷ ks) (declarator_spells d rest')) ds rest

declaration_spells : (d : Declaration) (rest : List Lexeme) → onto_declaration d rest ≡ spell_declaration d ++ rest
declaration_spells d rest =
    let ks1 : List Lexeme = onto_all onto_next_declarator d.more (Marked signs.Semicolon ∷ rest) in
    let ks2 : List Lexeme = onto_declarator d.first ks1 in
    modifiers_spell d.modifiers (onto_type d.type_name ks2)
    ∙ ap (λ (ks : List Lexeme). flat_map spell_modifier d.modifiers ++ ks) (type_spells d.type_name ks2 ∙
    ap (λ (ks : List Lexeme). spell_type d.type_name ++ ks) (declarator_spells d.first ks1 ∙
    ap (λ (ks : List Lexeme). spell_declarator d.first ++ ks) (more_spells d.more (Marked signs.Semicolon ∷ rest))))
    ∙ simp append_assoc

label_spells : (label : Option Text) (rest : List Lexeme) → onto_label label rest ≡ spell_label label ++ rest
label_spells None rest = refl
label_spells (Some name) rest = refl

label_before_spells : (label : Option Text) (rest : List Lexeme) →
    onto_label_before label rest ≡ spell_label_before label ++ rest
label_before_spells None rest = refl
label_before_spells (Some name) rest = refl

value_spells : (value : Option Expression) (rest : List Lexeme) → onto_value value rest ≡ spell_value value ++ rest
value_spells None rest = refl
value_spells (Some value) rest = onto_spells value rest

abbrev cons : Lexeme → List Lexeme → List Lexeme
cons k ks = k ∷ ks

abbrev on : List Lexeme → List Lexeme → List Lexeme
on front ks = front ++ ks

condition_spells : (c : Expression) (rest : List Lexeme) →
    onto_condition c rest ≡ in_parens (spell_expression c) ++ rest
condition_spells c rest =
    ap (cons (Marked signs.OpenParen)) (onto_spells c (Marked signs.CloseParen ∷ rest) ∙
    sym (append_assoc (spell_expression c) (Marked signs.CloseParen ∷ []) rest))

braced : (ts : Items) (rest : List Lexeme) →
    onto_items ts (Marked signs.CloseBrace ∷ rest) ≡ spell_items ts ++ Marked signs.CloseBrace ∷ rest →
    onto_block ts rest ≡ in_braces (spell_items ts) ++ rest
braced ts rest e =
    ap (cons (Marked signs.OpenBrace)) (e ∙ sym (append_assoc (spell_items ts) (Marked signs.CloseBrace ∷ []) rest))

both_spell : (target value : Expression) (k : Lexeme) (rest : List Lexeme) →
    onto target (k ∷ onto value rest) ≡ (spell_expression target ++ k ∷ spell_expression value) ++ rest
both_spell target value k rest =
    onto_spells target (k ∷ onto value rest) ∙
    ap (λ (ks : List Lexeme). spell_expression target ++ k ∷ ks) (onto_spells value rest) ∙
    sym (append_assoc (spell_expression target) (k ∷ spell_expression value) rest)

simple_spells : (s : Simple) (rest : List Lexeme) → onto_simple s rest ≡ spell_simple s ++ rest
simple_spells (Assign target value) rest = both_spell target value (Marked signs.Assign) rest
simple_spells (Add target value) rest = both_spell target value (Marked signs.PlusAssign) rest
simple_spells (Count up true target) rest = ap (cons (Marked (count_sign up))) (onto_spells target rest)
simple_spells (Count up false target) rest = onto_spells target (Marked (count_sign up) ∷ rest) ∙
    sym (append_assoc (spell_expression target) (Marked (count_sign up) ∷ []) rest)
simple_spells (Evaluate value) rest = onto_spells value rest

simples_spell : (ss : List Simple) (rest : List Lexeme) → onto_simples ss rest ≡ spell_simples ss ++ rest
simples_spell [] rest = refl
simples_spell (s ∷ ss) rest =
    simple_spells s (onto_all onto_next_simple ss rest)
    ∙ ap (on (spell_simple s))
    (onto_all_spells onto_next_simple (λ t. Marked signs.Comma ∷ spell_simple t)
    (λ t rest'. ap (cons (Marked signs.Comma)) (simple_spells t rest')) ss rest)
    ∙ sym (append_assoc (spell_simple s) (flat_map (λ t. Marked signs.Comma ∷ spell_simple t) ss) rest)

opening_spells : (o : Opening) (rest : List Lexeme) → onto_opening o rest ≡ spell_opening o ++ rest
opening_spells (Declares d) rest = declaration_spells d rest
opening_spells (Performs ss) rest = simples_spell ss (Marked signs.Semicolon ∷ rest) ∙
    sym (append_assoc (spell_simples ss) (Marked signs.Semicolon ∷ []) rest)

head_spells : (o : Opening) (c : Option Expression) (us : List Simple) (rest : List Lexeme) →
    onto_head o c us rest ≡ in_parens (spell_head o c us) ++ rest
head_spells o c us rest =
    ap (cons (Marked signs.OpenParen)) (
    opening_spells o (onto_value c (Marked signs.Semicolon ∷ onto_simples us (Marked signs.CloseParen ∷ rest)))
    ∙ ap (on (spell_opening o))
    (value_spells c (Marked signs.Semicolon ∷ onto_simples us (Marked signs.CloseParen ∷ rest))
    ∙ ap (λ (ks : List Lexeme). spell_value c ++ Marked signs.Semicolon ∷ ks)
    (simples_spell us (Marked signs.CloseParen ∷ rest)))
    ∙ simp append_assoc)

mutual
  statement_spells : (t : Statement) (rest : List Lexeme) → onto_statement t rest ≡ spell_statement t ++ rest
  statement_spells (Block items) rest = braced items rest (items_spell items (Marked signs.CloseBrace ∷ rest))
  statement_spells Empty rest = refl
  statement_spells (If condition first) rest =
      ap (cons (Reserved words.If)) (condition_spells condition (onto_statement first rest) ∙
      ap (on (in_parens (spell_expression condition))) (statement_spells first rest) ∙
      sym (append_assoc (in_parens (spell_expression condition)) (spell_statement first) rest))
  statement_spells (IfElse condition first second) rest =
      ap (cons (Reserved words.If))
      (condition_spells condition (onto_statement first (Reserved words.Else ∷ onto_statement second rest))
      ∙ ap (on (in_parens (spell_expression condition)))
      (statement_spells first (Reserved words.Else ∷ onto_statement second rest) ∙
      ap (λ (ks : List Lexeme). spell_statement first ++ Reserved words.Else ∷ ks) (statement_spells second rest))
      ∙ simp append_assoc)
  statement_spells (While label condition body) rest =
      label_before_spells label (Reserved words.While ∷ onto_condition condition (onto_statement body rest))
      ∙ ap (λ (ks : List Lexeme). spell_label_before label ++ Reserved words.While ∷ ks)
      (condition_spells condition (onto_statement body rest) ∙
      ap (on (in_parens (spell_expression condition))) (statement_spells body rest) ∙
      sym (append_assoc (in_parens (spell_expression condition)) (spell_statement body) rest))
      ∙ sym (append_assoc (spell_label_before label)
      (Reserved words.While ∷ (in_parens (spell_expression condition) ++ spell_statement body)) rest)
  statement_spells (For label o c us body) rest =
      label_before_spells label (Reserved words.For ∷ onto_head o c us (onto_statement body rest))
      ∙ ap (λ (ks : List Lexeme). spell_label_before label ++ Reserved words.For ∷ ks)
      (head_spells o c us (onto_statement body rest) ∙
      ap (on (in_parens (spell_head o c us))) (statement_spells body rest) ∙
      sym (append_assoc (in_parens (spell_head o c us)) (spell_statement body) rest))
      ∙ sym (append_assoc (spell_label_before label)
      (Reserved words.For ∷ (in_parens (spell_head o c us) ++ spell_statement body)) rest)
  statement_spells (Break label) rest =
      ap (cons (Reserved words.Break)) (label_spells label (Marked signs.Semicolon ∷ rest) ∙
      sym (append_assoc (spell_label label) (Marked signs.Semicolon ∷ []) rest))
  statement_spells (Continue label) rest =
      ap (cons (Reserved words.Continue)) (label_spells label (Marked signs.Semicolon ∷ rest) ∙
      sym (append_assoc (spell_label label) (Marked signs.Semicolon ∷ []) rest))
  statement_spells (Return value) rest =
      ap (cons (Reserved words.Return)) (value_spells value (Marked signs.Semicolon ∷ rest) ∙
      sym (append_assoc (spell_value value) (Marked signs.Semicolon ∷ []) rest))
  statement_spells (Try body finally) rest =
      ap (cons (Reserved words.Try))
      (braced body (Reserved words.Finally ∷ onto_block finally rest)
      (items_spell body (Marked signs.CloseBrace ∷ Reserved words.Finally ∷ onto_block finally rest)) ∙
      ap (λ (ks : List Lexeme). in_braces (spell_items body) ++ Reserved words.Finally ∷ ks)
      (braced finally rest (items_spell finally (Marked signs.CloseBrace ∷ rest)))
      ∙ sym (append_assoc (in_braces (spell_items body)) (Reserved words.Finally ∷ in_braces (spell_items finally))
      rest))
  statement_spells (Synchronized target body) rest =
      ap (cons (Reserved words.Synchronized))
      (condition_spells target (Marked signs.OpenBrace ∷ onto_items body (Marked signs.CloseBrace ∷ rest)) ∙
      ap (on (in_parens (spell_expression target)))
      (braced body rest (items_spell body (Marked signs.CloseBrace ∷ rest))) ∙
      sym (append_assoc (in_parens (spell_expression target)) (in_braces (spell_items body)) rest))
  statement_spells (Perform simple) rest = simple_spells simple (Marked signs.Semicolon ∷ rest) ∙
      sym (append_assoc (spell_simple simple) (Marked signs.Semicolon ∷ []) rest)

  items_spell : (ts : Items) (rest : List Lexeme) → onto_items ts rest ≡ spell_items ts ++ rest
  items_spell NoItem rest = refl
  items_spell (Do first others) rest = statement_spells first (onto_items others rest) ∙
      ap (on (spell_statement first)) (items_spell others rest) ∙
      sym (append_assoc (spell_statement first) (spell_items others) rest)
  items_spell (Declare first others) rest = declaration_spells first (onto_items others rest) ∙
      ap (on (spell_declaration first)) (items_spell others rest) ∙
      sym (append_assoc (spell_declaration first) (spell_items others) rest)

block_spells : (ts : Items) (rest : List Lexeme) → onto_block ts rest ≡ in_braces (spell_items ts) ++ rest
block_spells ts rest = braced ts rest (items_spell ts (Marked signs.CloseBrace ∷ rest))

-- ---- classes

parameter_spells : (p : Parameter) (rest : List Lexeme) → onto_parameter p rest ≡ spell_parameter p ++ rest
parameter_spells p rest =
    modifiers_spell p.modifiers (onto_type p.type_name (Named p.name ∷ rest)) ∙
    ap (on (flat_map spell_modifier p.modifiers)) (type_spells p.type_name (Named p.name ∷ rest)) ∙
    simp append_assoc

group_spells : (ps : List Parameter) (rest : List Lexeme) →
    onto_group ps rest ≡ spell_parameters ps ++ Marked signs.CloseParen ∷ rest
group_spells [] rest = refl
group_spells (p ∷ ps) rest =
    parameter_spells p (onto_all onto_next_parameter ps (Marked signs.CloseParen ∷ rest))
    ∙ ap (on (spell_parameter p))
    (onto_all_spells onto_next_parameter (λ q. Marked signs.Comma ∷ spell_parameter q)
    (λ q rest'. ap (cons (Marked signs.Comma)) (parameter_spells q rest')) ps (Marked signs.CloseParen ∷ rest))
    ∙ sym (append_assoc (spell_parameter p) (flat_map (λ q. Marked signs.Comma ∷ spell_parameter q) ps)
    (Marked signs.CloseParen ∷ rest))

parameters_spell : (ps : List Parameter) (rest : List Lexeme) →
    onto_parameters ps rest ≡ in_parens (spell_parameters ps) ++ rest
parameters_spell ps rest =
    ap (cons (Marked signs.OpenParen))
    (group_spells ps rest ∙ sym (append_assoc (spell_parameters ps) (Marked signs.CloseParen ∷ []) rest))

result_spells : (t : Option TypeName) (rest : List Lexeme) → onto_result t rest ≡ spell_result t ++ rest
result_spells None rest = refl
result_spells (Some t) rest = type_spells t rest

locked_spells : (ms : List Modifier) (rest : List Lexeme) → onto_locked ms rest ≡ spell_locked ms ++ rest
locked_spells ms rest = ap (cons (Reserved words.Synchronized)) (modifiers_spell ms rest)

member_spells : (m : Member) (rest : List Lexeme) → onto_member m rest ≡ spell_member m ++ rest
member_spells (Fields d) rest = declaration_spells d rest
member_spells (Method modifiers locked result name parameters body) rest =
    let ks : List Lexeme = Named name ∷ onto_parameters parameters (onto_block body rest) in
    modifiers_spell modifiers (onto_all onto_locked locked (onto_result result ks)) ∙
    ap (on (flat_map spell_modifier modifiers))
    (onto_all_spells onto_locked spell_locked locked_spells locked (onto_result result ks) ∙
    ap (on (flat_map spell_locked locked)) (result_spells result ks ∙
    ap (λ (r : List Lexeme). spell_result result ++ Named name ∷ r)
    (parameters_spell parameters (onto_block body rest) ∙
    ap (on (in_parens (spell_parameters parameters))) (block_spells body rest))))
    ∙ simp append_assoc
member_spells (Constructor modifiers name parameters body) rest =
    modifiers_spell modifiers (Named name ∷ onto_parameters parameters (onto_block body rest)) ∙
    ap (λ (r : List Lexeme). flat_map spell_modifier modifiers ++ Named name ∷ r)
    (parameters_spell parameters (onto_block body rest) ∙
    ap (on (in_parens (spell_parameters parameters))) (block_spells body rest))
    ∙ simp append_assoc

class_spells : (c : ClassTree) (rest : List Lexeme) → onto_class_tree c rest ≡ spell_class c ++ rest
class_spells c rest =
    modifiers_spell c.modifiers (Reserved words.Class ∷ Named c.name ∷ Marked signs.OpenBrace ∷
    onto_all onto_member c.members (Marked signs.CloseBrace ∷ rest))
    ∙ ap (λ (r : List Lexeme). flat_map spell_modifier c.modifiers ++ Reserved words.Class ∷ Named c.name ∷
    Marked signs.OpenBrace ∷ r)
    (onto_all_spells onto_member spell_member member_spells c.members (Marked signs.CloseBrace ∷ rest))
    ∙ simp append_assoc

dotted_spells : (d : Dotted) (rest : List Lexeme) → onto_dotted d rest ≡ spell_dotted d ++ rest
dotted_spells d rest =
    ap (cons (Named d.first)) (onto_all_spells onto_part (λ name. Marked signs.Dot ∷ Named name ∷ []) (λ t rest'. refl)
    d.more rest)

star_spells : (all : Bool) (rest : List Lexeme) → onto_star all rest ≡ spell_all all ++ rest
star_spells true rest = refl
star_spells false rest = refl

-- an import is spelled as its spelling says
pub import_spells : (i : Import) (rest : List Lexeme) → onto_import i rest ≡ spell_import i ++ rest
import_spells i rest =
    ap (cons (Reserved words.Import)) (dotted_spells i.path (onto_star i.all (Marked signs.Semicolon ∷ rest)) ∙
    ap (on (spell_dotted i.path)) (star_spells i.all (Marked signs.Semicolon ∷ rest)) ∙ simp append_assoc)

-- a package is spelled as its spelling says
pub header_spells : (name : Option Dotted) (rest : List Lexeme) → onto_header name rest ≡ spell_package name ++ rest
header_spells None rest = refl
header_spells (Some name) rest =
    ap (cons (Reserved words.Package)) (dotted_spells name (Marked signs.Semicolon ∷ rest) ∙
    sym (append_assoc (spell_dotted name) (Marked signs.Semicolon ∷ []) rest))

-- a file is spelled as its spelling says
pub file_spells : (f : File) → onto_file f [] ≡ spell f
file_spells f =
    header_spells f.package_name (onto_all onto_import f.imports (onto_all onto_class_tree f.classes []))
    ∙ ap (on (spell_package f.package_name))
    (onto_all_spells onto_import spell_import import_spells f.imports (onto_all onto_class_tree f.classes [])
    ∙ ap (on (flat_map spell_import f.imports)) (onto_all_spells onto_class_tree spell_class class_spells f.classes [] ∙
    append-nil (flat_map spell_class f.classes)))
    ∙ sym (append_assoc (spell_package f.package_name) (flat_map spell_import f.imports)
    (flat_map spell_class f.classes))
