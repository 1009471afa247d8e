-- How many nodes a tree has: the measure of the recursion on expressions and statements.
use Rattle.std.proofs.Common.{◌≡◌, ℕ, ◌+◌, Option, Some, None, refl}
use Rattle.ls_tree.specs.Trees.{Text, Expression, Number, True, False, Null, This, Name, Paren, Unary, Binary, Field}
use Rattle.ls_tree.specs.Trees.{Call, CallOn, Item, New, NewMarkable, NewArray, Expressions, NoExpression}
use Rattle.ls_tree.specs.Trees.{MoreExpressions, Statement, Block, Empty, If, IfElse, While, For, Break, Continue}
use Rattle.ls_tree.specs.Trees.{Return, Try, Perform, Synchronized, Items, NoItem, Do, Declare}
use Rattle.ls_tree.specs.Views.{call_of}

abbrev mutual
  -- how many nodes an expression has
  pub nodes : Expression → ℕ
  nodes (Number text) = 1
  nodes True = 1
  nodes False = 1
  nodes Null = 1
  nodes This = 1
  nodes (Name text) = 1
  nodes (Paren inner) = nodes inner + 1
  nodes (Unary op operand) = nodes operand + 1
  nodes (Binary op left right) = nodes left + nodes right + 1
  nodes (Field target name) = nodes target + 1
  nodes (Call name arguments) = all_nodes arguments + 1
  nodes (CallOn target name arguments) = nodes target + all_nodes arguments + 1
  nodes (Item array index) = nodes array + nodes index + 1
  nodes (New class arguments) = all_nodes arguments + 1
  nodes (NewMarkable class arguments) = all_nodes arguments + 1
  nodes (NewArray length) = nodes length + 1

  -- how many nodes expressions have
  pub all_nodes : Expressions → ℕ
  all_nodes NoExpression = 0
  all_nodes (MoreExpressions first others) = nodes first + all_nodes others + 1

-- of a call with a target or none
abbrev pub call_nodes : Option Expression → Expressions → ℕ
call_nodes None arguments = all_nodes arguments
call_nodes (Some target) arguments = nodes target + all_nodes arguments

-- a call has one node more than those below it
pub nodes-call_of : (target : Option Expression) (name : Text) (arguments : Expressions) →
    nodes (call_of target name arguments) ≡ call_nodes target arguments + 1
nodes-call_of None name arguments = refl
nodes-call_of (Some target) name arguments = refl

abbrev mutual
  -- how many nodes a statement has
  pub statement_nodes : Statement → ℕ
  statement_nodes (Block items) = items_nodes items + 1
  statement_nodes Empty = 1
  statement_nodes (If condition first) = statement_nodes first + 1
  statement_nodes (IfElse condition first second) = statement_nodes first + statement_nodes second + 1
  statement_nodes (While label condition body) = statement_nodes body + 1
  statement_nodes (For label opening condition updates body) = statement_nodes body + 1
  statement_nodes (Break label) = 1
  statement_nodes (Continue label) = 1
  statement_nodes (Return value) = 1
  statement_nodes (Try body finally) = items_nodes body + items_nodes finally + 1
  statement_nodes (Synchronized target body) = items_nodes body + 1
  statement_nodes (Perform simple) = 1

  -- how many nodes the items of a block have
  pub items_nodes : Items → ℕ
  items_nodes NoItem = 0
  items_nodes (Do first others) = statement_nodes first + items_nodes others + 1
  items_nodes (Declare first others) = items_nodes others + 1

-- how many nodes the other branch has
abbrev pub other_nodes : Option Statement → ℕ
other_nodes None = 0
other_nodes (Some other) = statement_nodes other
