-- The tree of a bare tree, with each place at 0. Package, imports, modifiers and annotations are left out, but not
-- `synchronized`.
use Rattle.std.specs.Prelude.{map, option_map}
use Rattle.ls_tree.specs.Trees as bare
use Rattle.ls_tree.specs.PlacedTrees as Trees
use Rattle.ls_tree.specs.PlacedTrees.{Text, Name, Expression, Expressions, TypeName, Declarator, Declaration, Simple}
use Rattle.ls_tree.specs.PlacedTrees.{Opening, Statement, Items, Parameter, Member, ClassTree, File}
use Rattle.ls_parser_spelling.specs.Unplaced.{nowhere}

abbrev pub name_tree : Text → Name
name_tree text = record { text = text; span = nowhere }

abbrev mutual
  pub expression_tree : bare.Expression → Expression
  expression_tree (bare.Number text) = Trees.Number text nowhere
  expression_tree bare.True = Trees.True nowhere
  expression_tree bare.False = Trees.False nowhere
  expression_tree bare.Null = Trees.Null nowhere
  expression_tree bare.This = Trees.This nowhere
  expression_tree (bare.Name n) = Trees.Named (name_tree n)
  expression_tree (bare.Paren inner) = Trees.Paren (expression_tree inner) nowhere
  expression_tree (bare.Unary op operand) = Trees.Unary op (expression_tree operand) nowhere
  expression_tree (bare.Binary op left right) = Trees.Binary op (expression_tree left) (expression_tree right) nowhere
  expression_tree (bare.Field target n) = Trees.Field (expression_tree target) (name_tree n) nowhere
  expression_tree (bare.Call n es) = Trees.Call (name_tree n) (expressions_tree es) nowhere
  expression_tree (bare.CallOn target n es) =
      Trees.CallOn (expression_tree target) (name_tree n) (expressions_tree es) nowhere
  expression_tree (bare.Item array index) = Trees.Item (expression_tree array) (expression_tree index) nowhere
  expression_tree (bare.New n es) = Trees.New (name_tree n) (expressions_tree es) nowhere
  expression_tree (bare.NewMarkable n es) = Trees.NewMarkable (name_tree n) (expressions_tree es) nowhere
  expression_tree (bare.NewArray length) = Trees.NewArray (expression_tree length) nowhere

  pub expressions_tree : bare.Expressions → Expressions
  expressions_tree bare.NoExpression = Trees.End
  expressions_tree (bare.MoreExpressions e es) = Trees.More (expression_tree e) (expressions_tree es)

abbrev pub type_tree : bare.TypeName → TypeName
type_tree bare.Int = Trees.Int
type_tree bare.Boolean = Trees.Boolean
type_tree bare.BooleanArray = Trees.BooleanArray
type_tree (bare.Class n) = Trees.Class (name_tree n)
type_tree (bare.Markable n) = Trees.Markable (name_tree n)

abbrev pub declarator_tree : bare.Declarator → Declarator
declarator_tree d = record { name = name_tree d.name; value = option_map expression_tree d.value }

abbrev pub declaration_tree : bare.Declaration → Declaration
declaration_tree d = record {
  type_name = type_tree d.type_name;
  first = declarator_tree d.first;
  more = map declarator_tree d.more;
}

abbrev pub simple_tree : bare.Simple → Simple
simple_tree (bare.Assign target value) = Trees.Assign (expression_tree target) (expression_tree value)
simple_tree (bare.Add target value) = Trees.Add (expression_tree target) (expression_tree value)
simple_tree (bare.Count up before target) = Trees.Count up before (expression_tree target)
simple_tree (bare.Evaluate e) = Trees.Evaluate (expression_tree e)

abbrev pub opening_tree : bare.Opening → Opening
opening_tree (bare.Declares d) = Trees.Declares (declaration_tree d)
opening_tree (bare.Performs ss) = Trees.Performs (map simple_tree ss)

abbrev mutual
  pub statement_tree : bare.Statement → Statement
  statement_tree (bare.Block is) = Trees.Block (items_tree is)
  statement_tree bare.Empty = Trees.Empty
  statement_tree (bare.If c s) = Trees.If (expression_tree c) (statement_tree s)
  statement_tree (bare.IfElse c s t) = Trees.IfElse (expression_tree c) (statement_tree s) (statement_tree t)
  statement_tree (bare.While label c s) =
      Trees.While (option_map name_tree label) (expression_tree c) (statement_tree s)
  statement_tree (bare.For label o c us s) =
      Trees.For (option_map name_tree label) (opening_tree o) (option_map expression_tree c) (map simple_tree us)
      (statement_tree s)
  statement_tree (bare.Break label) = Trees.Break (option_map name_tree label) nowhere
  statement_tree (bare.Continue label) = Trees.Continue (option_map name_tree label) nowhere
  statement_tree (bare.Return value) = Trees.Return (option_map expression_tree value) nowhere
  statement_tree (bare.Try b f) = Trees.Try (items_tree b) (items_tree f)
  statement_tree (bare.Synchronized target b) = Trees.Synchronized (expression_tree target) (items_tree b)
  statement_tree (bare.Perform s) = Trees.Perform (simple_tree s)

  pub items_tree : bare.Items → Items
  items_tree bare.NoItem = Trees.NoItem
  items_tree (bare.Do s rest) = Trees.Do (statement_tree s) (items_tree rest)
  items_tree (bare.Declare d rest) = Trees.Declare (declaration_tree d) (items_tree rest)

abbrev pub parameter_tree : bare.Parameter → Parameter
parameter_tree p = record { type_name = type_tree p.type_name; name = name_tree p.name }

abbrev pub member_tree : bare.Member → Member
member_tree (bare.Fields d) = Trees.Fields (declaration_tree d)
member_tree (bare.Method modifiers locked result n ps body) =
    Trees.Method (Trees.some_in locked) (option_map type_tree result) (name_tree n) (map parameter_tree ps)
    (items_tree body)
member_tree (bare.Constructor modifiers n ps body) =
    Trees.Constructor (name_tree n) (map parameter_tree ps) (items_tree body)

abbrev pub class_tree : bare.ClassTree → ClassTree
class_tree c = record { name = name_tree c.name; members = map member_tree c.members }

abbrev pub file_tree : bare.File → File
file_tree f = record { classes = map class_tree f.classes }
