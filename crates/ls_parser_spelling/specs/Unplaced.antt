-- Trees with each place set to 0.
use Rattle.std.specs.Prelude.{map, option_map}
use Rattle.ls_lexer.specs.declared.token.Span.{Span}
use Rattle.ls_tree.specs.PlacedTrees as Trees
use Rattle.ls_tree.specs.PlacedTrees.{Name, Expression, Expressions, TypeName, Declarator, Declaration, Simple}
use Rattle.ls_tree.specs.PlacedTrees.{Opening, Statement, Items, Parameter, Member, ClassTree, File}

abbrev pub nowhere : Span
nowhere = record { start = 0; end = 0 }

abbrev pub unplaced_name : Name → Name
unplaced_name n = record { text = n.text; span = nowhere }

abbrev mutual
  pub unplaced : Expression → Expression
  unplaced (Trees.Number text span) = Trees.Number text nowhere
  unplaced (Trees.True span) = Trees.True nowhere
  unplaced (Trees.False span) = Trees.False nowhere
  unplaced (Trees.Null span) = Trees.Null nowhere
  unplaced (Trees.This span) = Trees.This nowhere
  unplaced (Trees.Named n) = Trees.Named (unplaced_name n)
  unplaced (Trees.Paren inner span) = Trees.Paren (unplaced inner) nowhere
  unplaced (Trees.Unary op operand span) = Trees.Unary op (unplaced operand) nowhere
  unplaced (Trees.Binary op left right span) = Trees.Binary op (unplaced left) (unplaced right) nowhere
  unplaced (Trees.Field target n span) = Trees.Field (unplaced target) (unplaced_name n) nowhere
  unplaced (Trees.Call n es span) = Trees.Call (unplaced_name n) (all_unplaced es) nowhere
  unplaced (Trees.CallOn target n es span) = Trees.CallOn (unplaced target) (unplaced_name n) (all_unplaced es) nowhere
  unplaced (Trees.Item array index span) = Trees.Item (unplaced array) (unplaced index) nowhere
  unplaced (Trees.New n es span) = Trees.New (unplaced_name n) (all_unplaced es) nowhere
  unplaced (Trees.NewMarkable n es span) = Trees.NewMarkable (unplaced_name n) (all_unplaced es) nowhere
  unplaced (Trees.NewArray length span) = Trees.NewArray (unplaced length) nowhere

  pub all_unplaced : Expressions → Expressions
  all_unplaced Trees.End = Trees.End
  all_unplaced (Trees.More e es) = Trees.More (unplaced e) (all_unplaced es)

abbrev pub unplaced_type : TypeName → TypeName
unplaced_type Trees.Int = Trees.Int
unplaced_type Trees.Boolean = Trees.Boolean
unplaced_type Trees.BooleanArray = Trees.BooleanArray
unplaced_type (Trees.Class n) = Trees.Class (unplaced_name n)
unplaced_type (Trees.Markable n) = Trees.Markable (unplaced_name n)

abbrev pub unplaced_declarator : Declarator → Declarator
unplaced_declarator d = record { name = unplaced_name d.name; value = option_map unplaced d.value }

abbrev pub unplaced_declaration : Declaration → Declaration
unplaced_declaration d = record {
  type_name = unplaced_type d.type_name;
  first = unplaced_declarator d.first;
  more = map unplaced_declarator d.more;
}

abbrev pub unplaced_simple : Simple → Simple
unplaced_simple (Trees.Assign target value) = Trees.Assign (unplaced target) (unplaced value)
unplaced_simple (Trees.Add target value) = Trees.Add (unplaced target) (unplaced value)
unplaced_simple (Trees.Count up before target) = Trees.Count up before (unplaced target)
unplaced_simple (Trees.Evaluate e) = Trees.Evaluate (unplaced e)

abbrev pub unplaced_opening : Opening → Opening
unplaced_opening (Trees.Declares d) = Trees.Declares (unplaced_declaration d)
unplaced_opening (Trees.Performs ss) = Trees.Performs (map unplaced_simple ss)

abbrev mutual
  pub unplaced_statement : Statement → Statement
  unplaced_statement (Trees.Block items) = Trees.Block (unplaced_items items)
  unplaced_statement Trees.Empty = Trees.Empty
  unplaced_statement (Trees.If c s) = Trees.If (unplaced c) (unplaced_statement s)
  unplaced_statement (Trees.IfElse c s t) = Trees.IfElse (unplaced c) (unplaced_statement s) (unplaced_statement t)
  unplaced_statement (Trees.While label c s) =
      Trees.While (option_map unplaced_name label) (unplaced c) (unplaced_statement s)
  unplaced_statement (Trees.For label o c us s) =
      Trees.For (option_map unplaced_name label) (unplaced_opening o) (option_map unplaced c) (map unplaced_simple us)
      (unplaced_statement s)
  unplaced_statement (Trees.Break label span) = Trees.Break (option_map unplaced_name label) nowhere
  unplaced_statement (Trees.Continue label span) = Trees.Continue (option_map unplaced_name label) nowhere
  unplaced_statement (Trees.Return value span) = Trees.Return (option_map unplaced value) nowhere
  unplaced_statement (Trees.Try b f) = Trees.Try (unplaced_items b) (unplaced_items f)
  unplaced_statement (Trees.Synchronized target b) = Trees.Synchronized (unplaced target) (unplaced_items b)
  unplaced_statement (Trees.Perform s) = Trees.Perform (unplaced_simple s)

  pub unplaced_items : Items → Items
  unplaced_items Trees.NoItem = Trees.NoItem
  unplaced_items (Trees.Do s rest) = Trees.Do (unplaced_statement s) (unplaced_items rest)
  unplaced_items (Trees.Declare d rest) = Trees.Declare (unplaced_declaration d) (unplaced_items rest)

abbrev pub unplaced_parameter : Parameter → Parameter
unplaced_parameter p = record { type_name = unplaced_type p.type_name; name = unplaced_name p.name }

abbrev pub unplaced_member : Member → Member
unplaced_member (Trees.Fields d) = Trees.Fields (unplaced_declaration d)
unplaced_member (Trees.Method sync result n ps body) =
    Trees.Method sync (option_map unplaced_type result) (unplaced_name n) (map unplaced_parameter ps)
    (unplaced_items body)
unplaced_member (Trees.Constructor n ps body) =
    Trees.Constructor (unplaced_name n) (map unplaced_parameter ps) (unplaced_items body)

abbrev pub unplaced_class : ClassTree → ClassTree
unplaced_class c = record { name = unplaced_name c.name; members = map unplaced_member c.members }

abbrev pub unplaced_file : File → File
unplaced_file f = record { classes = map unplaced_class f.classes }
