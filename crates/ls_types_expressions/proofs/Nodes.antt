-- How many nodes an expression has: the measure of the recursion on expressions.
use Rattle.std.proofs.Common.{◌≡◌, ℕ, ◌+◌, Option, Some, None, refl}
use Rattle.ls_lexer.specs.declared.token.Span.{Span}
use Rattle.ls_types_elaboration.specs.Trees.{Name, Expression, Number, True, False, Null, This, Named, Paren, Unary}
use Rattle.ls_types_elaboration.specs.Trees.{Binary, Field, Call, CallOn, Item, New, NewMarkable, NewArray, Expressions}
use Rattle.ls_types_elaboration.specs.Trees.{End, More}
use Rattle.ls_types_elaboration.specs.Placed.{call_of}

abbrev mutual
  -- how many nodes an expression has
  pub nodes : Expression → ℕ
  nodes (Number text span) = 1
  nodes (True span) = 1
  nodes (False span) = 1
  nodes (Null span) = 1
  nodes (This span) = 1
  nodes (Named name) = 1
  nodes (Paren inner span) = nodes inner + 1
  nodes (Unary op operand span) = nodes operand + 1
  nodes (Binary op left right span) = nodes left + nodes right + 1
  nodes (Field target name span) = nodes target + 1
  nodes (Call name arguments span) = all_nodes arguments + 1
  nodes (CallOn target name arguments span) = nodes target + all_nodes arguments + 1
  nodes (Item array index span) = nodes array + nodes index + 1
  nodes (New class arguments span) = all_nodes arguments + 1
  nodes (NewMarkable class arguments span) = all_nodes arguments + 1
  nodes (NewArray length span) = nodes length + 1

  -- how many nodes expressions have
  pub all_nodes : Expressions → ℕ
  all_nodes End = 0
  all_nodes (More first others) = nodes first + all_nodes others + 1

-- how many nodes a call has below it
abbrev pub call_nodes : Option Expression → Expressions → ℕ
call_nodes None es = all_nodes es
call_nodes (Some target) es = nodes target + all_nodes es

-- a call has one node more than those below it
pub nodes-call_of : (o : Option Expression) (n : Name) (es : Expressions) (span : Span) →
    nodes (call_of o n es span) ≡ call_nodes o es + 1
nodes-call_of None n es span = refl
nodes-call_of (Some target) n es span = refl
