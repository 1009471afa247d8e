-- The code's tree is seen with places and without as one file.
use Rattle.std.proofs.Common.{◌≡◌, ℕ, refl, ap, List, [], ◌∷◌, Option, Some, None, map}
use Rattle.std.specs.Prelude.{option_map}
use Rattle.ls_tree.specs.declared.tree.Name.{Name}
use Rattle.ls_tree.specs.declared.tree.Expression.{Expression, Row_of-Expression, end_of-Expression, more_of-Expression}
use Rattle.ls_tree.specs.declared.tree.Expression as expression_parts
use Rattle.ls_tree.specs.declared.tree.Expression.TheVariants as parsed
use Rattle.ls_tree.specs.declared.tree.«Type».{«Type»}
use Rattle.ls_tree.specs.declared.tree.«Type».TheVariants as types
use Rattle.ls_tree.specs.declared.tree.Declarator.{Declarator}
use Rattle.ls_tree.specs.declared.tree.Declaration.{Declaration}
use Rattle.ls_tree.specs.declared.tree.Simple.{Simple}
use Rattle.ls_tree.specs.declared.tree.Simple.TheVariants as simples
use Rattle.ls_tree.specs.declared.tree.Opening.{Opening}
use Rattle.ls_tree.specs.declared.tree.Opening.TheVariants as openings
use Rattle.ls_tree.specs.declared.tree.Statement.{Statement, Row_of-BlockItem, end_of-BlockItem, more_of-BlockItem}
use Rattle.ls_tree.specs.declared.tree.Statement as statement_parts
use Rattle.ls_tree.specs.declared.tree.Statement.TheVariants as statements
use Rattle.ls_tree.specs.declared.tree.BlockItem.{BlockItem}
use Rattle.ls_tree.specs.declared.tree.BlockItem.TheVariants as rows
use Rattle.ls_tree.specs.declared.tree.Parameter.{Parameter}
use Rattle.ls_tree.specs.declared.tree.Member.{Member}
use Rattle.ls_tree.specs.declared.tree.Member.TheVariants as members
use Rattle.ls_tree.specs.declared.tree.Class.{Class}
use Rattle.ls_tree.specs.declared.tree.ClassFile.{ClassFile}
use Rattle.ls_tree.specs.Views.{name_text, bare_modifiers, bare, bare_row, bare_type, bare_declarator}
use Rattle.ls_tree.specs.Views.{bare_declaration, bare_simple, bare_opening, bare_statement, bare_items, items_of}
use Rattle.ls_tree.specs.Views.{bare_parameter, bare_member, bare_class}
use Rattle.ls_tree.specs.FileView.{bare_file}
use Rattle.ls_tree.specs.PlacedTrees as Trees
use Rattle.ls_tree.specs.Placed.{placed, placed_row, placed_name}
use Rattle.ls_tree.specs.PlacedStatements.{placed_type, placed_declarator, placed_declaration, placed_simple}
use Rattle.ls_tree.specs.PlacedStatements.{placed_opening, placed_statement, placed_row as placed_items_row}
use Rattle.ls_tree.specs.PlacedStatements.{placed_items, placed_parameter, placed_member, placed_class, placed_file}
use Rattle.ls_parser_spelling.specs.Unplaced.{nowhere, unplaced, all_unplaced, unplaced_name, unplaced_type}
use Rattle.ls_parser_spelling.specs.Unplaced.{unplaced_declarator, unplaced_declaration, unplaced_simple}
use Rattle.ls_parser_spelling.specs.Unplaced.{unplaced_opening, unplaced_statement, unplaced_items, unplaced_parameter}
use Rattle.ls_parser_spelling.specs.Unplaced.{unplaced_member, unplaced_class, unplaced_file}
use Rattle.ls_parser_spelling.specs.Outlines.{name_tree, expression_tree, expressions_tree, type_tree, declarator_tree}
use Rattle.ls_parser_spelling.specs.Outlines.{declaration_tree, simple_tree, opening_tree, statement_tree, items_tree}
use Rattle.ls_parser_spelling.specs.Outlines.{parameter_tree, member_tree, class_tree, file_tree}
use Rattle.ls_parser_spelling.specs.Spells.{TextSpells}
use Rattle.ls_parser_spelling.specs.FilePlaces.{PlacedIn}
use Rattle.ls_parser_spelling.specs.Files.{IsFileOf}

maps_same : {A B C D : Type 0} (f : B → D) (g : A → B) (h : C → D) (k : A → C) (xs : List A) →
    ((x : A) → f (g x) ≡ h (k x))
    → map f (map g xs) ≡ map h (map k xs)
maps_same f g h k [] e = refl
maps_same {D = D} f g h k (x ∷ xs) e = λ i. e x i ∷ maps_same f g h k xs e i

some_same : {A B : Type 0} (f : A → B) (xs : List A) → Trees.some_in xs ≡ Trees.some_in (map f xs)
some_same f [] = refl
some_same f (x ∷ xs) = refl

options_same : {A B C D : Type 0} (f : B → D) (g : A → B) (h : C → D) (k : A → C) (o : Option A) →
    ((x : A) → f (g x) ≡ h (k x))
    → option_map f (option_map g o) ≡ option_map h (option_map k o)
options_same f g h k None e = refl
options_same f g h k (Some x) e = ap Some (e x)

mutual
  expression_same : (e : Expression) → unplaced (placed e) ≡ expression_tree (bare e)
  expression_same (parsed.Number text span) = refl
  expression_same (parsed.True span) = refl
  expression_same (parsed.False span) = refl
  expression_same (parsed.Null span) = refl
  expression_same (parsed.This span) = refl
  expression_same (parsed.Name n) = refl
  expression_same (parsed.Paren' p inner span) = λ i. Trees.Paren (expression_same inner i) nowhere
  expression_same (parsed.Unary' op p operand span) = λ i. Trees.Unary op (expression_same operand i) nowhere
  expression_same (parsed.Binary' op p left q right span) =
      λ i. Trees.Binary op (expression_same left i) (expression_same right i) nowhere
  expression_same (parsed.Field' p target n span) =
      λ i. Trees.Field (expression_same target i) (name_tree (name_text n)) nowhere
  expression_same (parsed.Call' expression_parts.None' n shape es span) =
      λ i. Trees.Call (name_tree (name_text n)) (row_same _ es i) nowhere
  expression_same (parsed.Call' (expression_parts.Some' p target) n shape es span) =
      λ i. Trees.CallOn (expression_same target i) (name_tree (name_text n)) (row_same _ es i) nowhere
  expression_same (parsed.Item' p array q index span) =
      λ i. Trees.Item (expression_same array i) (expression_same index i) nowhere
  expression_same (parsed.New' n shape es span) = λ i. Trees.New (name_tree (name_text n)) (row_same _ es i) nowhere
  expression_same (parsed.NewMarkable' n shape es span) =
      λ i. Trees.NewMarkable (name_tree (name_text n)) (row_same _ es i) nowhere
  expression_same (parsed.NewArray' p length span) = λ i. Trees.NewArray (expression_same length i) nowhere

  row_same : (m : _) (row : Row_of-Expression m) → all_unplaced (placed_row row) ≡ expressions_tree (bare_row row)
  row_same m end_of-Expression = refl
  row_same m (more_of-Expression e rest) = λ i. Trees.More (expression_same e i) (row_same _ rest i)

type_same : (t : «Type») → unplaced_type (placed_type t) ≡ type_tree (bare_type t)
type_same types.Int = refl
type_same types.Boolean = refl
type_same types.BooleanArray = refl
type_same (types.Class n) = refl
type_same (types.Markable n) = refl

declarator_same : (d : Declarator) → unplaced_declarator (placed_declarator d) ≡ declarator_tree (bare_declarator d)
declarator_same d =
    λ i. record {
      name = name_tree (name_text d.name);
      value =
          options_same unplaced placed expression_tree bare d.value expression_same i;
    }

declaration_same : (d : Declaration) →
    unplaced_declaration (placed_declaration d) ≡ declaration_tree (bare_declaration d)
declaration_same d = λ i. record {
  type_name = type_same d.type_name i;
  first = declarator_same d.first i;
  more = maps_same unplaced_declarator placed_declarator declarator_tree bare_declarator d.more.items declarator_same i;
}

label_same : (label : Option Name) →
    option_map unplaced_name (option_map placed_name label) ≡ option_map name_tree (option_map name_text label)
label_same label = options_same unplaced_name placed_name name_tree name_text label (λ n. refl)

value_same : (value : Option Expression) →
    option_map unplaced (option_map placed value) ≡ option_map expression_tree (option_map bare value)
value_same value = options_same unplaced placed expression_tree bare value expression_same

simple_same : (s : Simple) → unplaced_simple (placed_simple s) ≡ simple_tree (bare_simple s)
simple_same (simples.Assign target value) = λ i. Trees.Assign (expression_same target i) (expression_same value i)
simple_same (simples.Add target value) = λ i. Trees.Add (expression_same target i) (expression_same value i)
simple_same (simples.Count up before target) = ap (Trees.Count up before) (expression_same target)
simple_same (simples.Evaluate value) = ap Trees.Evaluate (expression_same value)

simples_same : (ss : List Simple) → map unplaced_simple (map placed_simple ss) ≡ map simple_tree (map bare_simple ss)
simples_same ss = maps_same unplaced_simple placed_simple simple_tree bare_simple ss simple_same

opening_same : (o : Opening) → unplaced_opening (placed_opening o) ≡ opening_tree (bare_opening o)
opening_same (openings.Declaration d) = ap Trees.Declares (declaration_same d)
opening_same (openings.Simples ss) = ap Trees.Performs (simples_same ss.items)

mutual
  statement_same : (s : Statement) → unplaced_statement (placed_statement s) ≡ statement_tree (bare_statement s)
  statement_same (statements.Block' shape row span) = ap Trees.Block (block_same _ row)
  statement_same (statements.Empty span) = refl
  statement_same (statements.If' c p s statement_parts.None' span) =
      λ i. Trees.If (expression_same c i) (statement_same s i)
  statement_same (statements.If' c p s (statement_parts.Some' q t) span) =
      λ i. Trees.IfElse (expression_same c i) (statement_same s i) (statement_same t i)
  statement_same (statements.While' label c p s span) =
      λ i. Trees.While (label_same label i) (expression_same c i) (statement_same s i)
  statement_same (statements.For' label o c us p s span) = λ i.
      Trees.For (label_same label i) (opening_same o i) (value_same c i) (simples_same us.items i) (statement_same s i)
  statement_same (statements.Break label span) = λ i. Trees.Break (label_same label i) nowhere
  statement_same (statements.Continue label span) = λ i. Trees.Continue (label_same label i) nowhere
  statement_same (statements.Return value span) = λ i. Trees.Return (value_same value i) nowhere
  statement_same (statements.Try' shape body begin other finally end span) =
      λ i. Trees.Try (block_same _ body i) (block_same _ finally i)
  statement_same (statements.Synchronized' target shape body end span) =
      λ i. Trees.Synchronized (expression_same target i) (block_same _ body i)
  statement_same (statements.Simple s span) = ap Trees.Perform (simple_same s)

  block_same : (m : _) (row : Row_of-BlockItem m) → unplaced_items (placed_items_row row) ≡ items_tree (bare_items row)
  block_same m end_of-BlockItem = refl
  block_same m (more_of-BlockItem (rows.Statement s) rest) = λ i. Trees.Do (statement_same s i) (block_same _ rest i)
  block_same m (more_of-BlockItem (rows.Declaration d) rest) =
      λ i. Trees.Declare (declaration_same d i) (block_same _ rest i)

items_same : (is : List BlockItem) → unplaced_items (placed_items is) ≡ items_tree (items_of is)
items_same [] = refl
items_same (rows.Statement s ∷ rest) = λ i. Trees.Do (statement_same s i) (items_same rest i)
items_same (rows.Declaration d ∷ rest) = λ i. Trees.Declare (declaration_same d i) (items_same rest i)

parameter_same : (p : Parameter) → unplaced_parameter (placed_parameter p) ≡ parameter_tree (bare_parameter p)
parameter_same p = λ i. record { type_name = type_same p.type_name i; name = name_tree (name_text p.name) }

parameters_same : (ps : List Parameter) →
    map unplaced_parameter (map placed_parameter ps) ≡ map parameter_tree (map bare_parameter ps)
parameters_same ps = maps_same unplaced_parameter placed_parameter parameter_tree bare_parameter ps parameter_same

member_same : (m : Member) → unplaced_member (placed_member m) ≡ member_tree (bare_member m)
member_same (members.Field d) = ap Trees.Fields (declaration_same d)
member_same (members.Method m) = λ i.
    Trees.Method (some_same bare_modifiers m.locked.items i)
    (options_same unplaced_type placed_type type_tree bare_type m.result type_same i) (name_tree (name_text m.name))
    (parameters_same m.parameters.items i) (items_same m.body.items.items i)
member_same (members.Constructor c) = λ i.
    Trees.Constructor (name_tree (name_text c.name)) (parameters_same c.parameters.items i)
    (items_same c.body.items.items i)

class_same : (c : Class) → unplaced_class (placed_class c) ≡ class_tree (bare_class c)
class_same c =
    λ i. record {
      name = name_tree (name_text c.name);
      members =
          maps_same unplaced_member placed_member member_tree bare_member c.members.items member_same i;
    }

file_same : (f : ClassFile) → unplaced_file (placed_file f) ≡ file_tree (bare_file f)
file_same f =
    λ i. record { classes = maps_same unplaced_class placed_class class_tree bare_class f.classes.items class_same i }

-- a file that a text spells, at its places, is the file of the text
pub is_file_of : (f : ClassFile) {text : List ℕ} →
    TextSpells (bare_file f) text →
    PlacedIn (placed_file f) text →
    IsFileOf text (placed_file f)
is_file_of f spelled placed = record { tree = bare_file f; spelled = spelled; placed = placed; forgotten = file_same f }
