-- The plain data that a lowered tree of the code stands for.
use Rattle.std.specs.Prelude.{List, [], ◌∷◌, map}
use Rattle.ls_lowered.specs.LoweredTree as lowered
use Rattle.ls_lowered.specs.declared.tree.Expression.{Expression}
use Rattle.ls_lowered.specs.declared.tree.Expression.TheVariants as forms
use Rattle.ls_lowered.specs.declared.tree.Expressions.{Expressions}
use Rattle.ls_lowered.specs.declared.tree.Expressions.TheVariants as lists
use Rattle.ls_lowered.specs.declared.tree.Statement.{Statement, Row_of-Statement, end_of-Statement, more_of-Statement}
use Rattle.ls_lowered.specs.declared.tree.Statement.TheVariants as statements
use Rattle.ls_lowered.specs.declared.tree.Method.{Method}
use Rattle.ls_lowered.specs.declared.tree.File.{File}

abbrev mutual
  pub plain : Expression → lowered.Expression
  plain (forms.Word w) = lowered.Word w
  plain (forms.Local n) = lowered.Local n
  plain (forms.Unary' op p e) = lowered.Unary op (plain e)
  plain (forms.Binary' op p a q b) = lowered.Binary op (plain a) (plain b)
  plain (forms.And' p a q b) = lowered.And (plain a) (plain b)
  plain (forms.Or' p a q b) = lowered.Or (plain a) (plain b)
  plain (forms.Hold' p a n q b) = lowered.Hold (plain a) n (plain b)
  plain (forms.Keep' n p a q b) = lowered.Keep n (plain a) (plain b)
  plain (forms.After' p a q b) = lowered.After (plain a) (plain b)
  plain (forms.Field' p e field) = lowered.Field (plain e) field
  plain (forms.Item' p a q i) = lowered.Item (plain a) (plain i)
  plain (forms.SetFirst' p a q v) = lowered.SetFirst (plain a) (plain v)
  plain (forms.ReadPair' p e) = lowered.ReadPair (plain e)
  plain (forms.SetPair' p e q v) = lowered.SetPair (plain e) (plain v)
  plain (forms.SwapPair' p e q a r b) = lowered.SwapPair (plain e) (plain a) (plain b)
  plain (forms.AttemptMark' p e q a r b) = lowered.AttemptMark (plain e) (plain a) (plain b)
  plain (forms.OnLock' op p e) = lowered.OnLock op (plain e)
  plain (forms.Call' m p e q es) = lowered.Call m (plain e) (all_plain es)
  plain (forms.MakeObject' class constructor p es) = lowered.MakeObject class constructor (all_plain es)
  plain forms.MakeLock = lowered.MakeLock
  plain (forms.MakeMarkable' p e) = lowered.MakeMarkable (plain e)
  plain (forms.MakeArray' p e) = lowered.MakeArray (plain e)

  pub all_plain : Expressions → lowered.Expressions
  all_plain lists.End = lowered.End
  all_plain (lists.More' p e q es) = lowered.More (plain e) (all_plain es)

abbrev mutual
  pub plain_statement : Statement → lowered.Statement
  plain_statement (statements.Block' shape row) = lowered.Block (row_statements row)
  plain_statement (statements.SetLocal n e) = lowered.SetLocal n (plain e)
  plain_statement (statements.SetField object field value) = lowered.SetField (plain object) field (plain value)
  plain_statement (statements.AddField object field value) = lowered.AddField (plain object) field (plain value)
  plain_statement (statements.SetItem array index value) = lowered.SetItem (plain array) (plain index) (plain value)
  plain_statement (statements.Evaluate e) = lowered.Evaluate (plain e)
  plain_statement (statements.If' e p a q b) = lowered.If (plain e) (plain_statement a) (plain_statement b)
  plain_statement (statements.While' e p s) = lowered.While (plain e) (plain_statement s)
  plain_statement (statements.Return e) = lowered.Return (plain e)
  plain_statement (statements.Try' p a q b) = lowered.Try (plain_statement a) (plain_statement b)
  plain_statement (statements.Guarded' p a n q b) = lowered.Guarded (plain_statement a) n (plain_statement b)
  plain_statement (statements.Throw n) = lowered.Throw n
  plain_statement (statements.Leavable' p a shape row) = lowered.Leavable (plain_statement a) (row_statements row)
  plain_statement (statements.Leave n) = lowered.Leave n

  pub row_statements : {m : _} → Row_of-Statement m → lowered.Statements
  row_statements end_of-Statement = lowered.Done
  row_statements (more_of-Statement s rest) = lowered.Then (plain_statement s) (row_statements rest)

-- statements in front of others
abbrev pub in_front : List Statement → lowered.Statements → lowered.Statements
in_front [] rest = rest
in_front (s ∷ ss) rest = lowered.Then (plain_statement s) (in_front ss rest)

abbrev pub statements_of : List Statement → lowered.Statements
statements_of ss = in_front ss lowered.Done

abbrev pub plain_method : Method → lowered.Method
plain_method m = record { arguments = m.arguments; locals = m.locals; body = plain_statement m.body }

abbrev pub plain_file : File → lowered.File
plain_file f = map plain_method f.methods.items
