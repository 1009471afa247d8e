-- The plain data that a checked tree of the code stands for.
use Rattle.std.specs.Prelude.{List, [], ◌∷◌, map}
use Rattle.ls_checked.specs.CheckedTree as checked
use Rattle.ls_checked.specs.declared.tree.Expression.{Expression}
use Rattle.ls_checked.specs.declared.tree.Expression.TheVariants as forms
use Rattle.ls_checked.specs.declared.tree.Expressions.{Expressions}
use Rattle.ls_checked.specs.declared.tree.Expressions.TheVariants as lists
use Rattle.ls_checked.specs.declared.tree.Statement.{Statement, Row_of-Statement, end_of-Statement, more_of-Statement}
use Rattle.ls_checked.specs.declared.tree.Statement.TheVariants as statements
use Rattle.ls_checked.specs.declared.tree.Method.{Method}
use Rattle.ls_checked.specs.declared.tree.Class.{Class}
use Rattle.ls_checked.specs.declared.tree.File.{File}

abbrev mutual
  pub plain : Expression → checked.Expression
  plain (forms.Literal v) = checked.Literal v
  plain (forms.Slot n) = checked.Slot n
  plain (forms.Field' p e class field) = checked.Field (plain e) class field
  plain (forms.Item' p a q i) = checked.Item (plain a) (plain i)
  plain (forms.Negate' p e) = checked.Negate (plain e)
  plain (forms.Not' p e) = checked.Not (plain e)
  plain (forms.Binary' op p a q b) = checked.Binary op (plain a) (plain b)
  plain (forms.And' p a q b) = checked.And (plain a) (plain b)
  plain (forms.Or' p a q b) = checked.Or (plain a) (plain b)
  plain (forms.Call' p e called q es) = checked.Call (plain e) called (all_plain es)
  plain (forms.MakeObject' class p es) = checked.MakeObject class (all_plain es)
  plain forms.MakeLock = checked.MakeLock
  plain (forms.MakeMarkable' class p es) = checked.MakeMarkable class (all_plain es)
  plain (forms.MakeArray' p e) = checked.MakeArray (plain e)

  pub all_plain : Expressions → checked.Expressions
  all_plain lists.End = checked.End
  all_plain (lists.More' p e q es) = checked.More (plain e) (all_plain es)

abbrev mutual
  pub plain_statement : Statement → checked.Statement
  plain_statement (statements.Block' shape row) = checked.Block (row_statements row)
  plain_statement (statements.SetSlot n e) = checked.SetSlot n (plain e)
  plain_statement (statements.SetField target field value) = checked.SetField (plain target) field (plain value)
  plain_statement (statements.AddField target field value) = checked.AddField (plain target) field (plain value)
  plain_statement (statements.SetItem array index value) = checked.SetItem (plain array) (plain index) (plain value)
  plain_statement (statements.Evaluate e) = checked.Evaluate (plain e)
  plain_statement (statements.If' e p a q b) = checked.If (plain e) (plain_statement a) (plain_statement b)
  plain_statement (statements.While' e p s) = checked.While (plain e) (plain_statement s)
  plain_statement (statements.Break n) = checked.Break n
  plain_statement (statements.Continue n) = checked.Continue n
  plain_statement statements.ReturnNothing = checked.ReturnNothing
  plain_statement (statements.ReturnValue e) = checked.ReturnValue (plain e)
  plain_statement (statements.Try' p a q b) = checked.Try (plain_statement a) (plain_statement b)

  pub row_statements : {m : _} → Row_of-Statement m → checked.Statements
  row_statements end_of-Statement = checked.Done
  row_statements (more_of-Statement s rest) = checked.Then (plain_statement s) (row_statements rest)

-- statements in front of others
abbrev pub in_front : List Statement → checked.Statements → checked.Statements
in_front [] rest = rest
in_front (s ∷ ss) rest = checked.Then (plain_statement s) (in_front ss rest)

abbrev pub statements_of : List Statement → checked.Statements
statements_of ss = in_front ss checked.Done

abbrev pub plain_method : Method → checked.Method
plain_method m = record {
  class = m.class;
  parameters = m.parameters;
  slots = m.slots.items;
  result = m.result;
  body = plain_statement m.body;
}

abbrev pub plain_class : Class → checked.Class
plain_class c = record { fields = c.fields.items; constructor = c.constructor }

abbrev pub plain_file : File → checked.File
plain_file f = record { classes = map plain_class f.classes.items; methods = map plain_method f.methods.items }
