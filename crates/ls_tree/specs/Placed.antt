-- The trees with places that the parsed trees of the code stand for.
use Rattle.std.specs.Prelude.{List, [], ◌∷◌, Option, Some, None, string_bytes}
use Rattle.std.specs.Global.{Box}
use Rattle.ls_lexer.specs.declared.token.Span.{Span}
use Rattle.ls_tree.specs.declared.tree.Name.{Name}
use Rattle.ls_tree.specs.declared.tree.Expression.{Expression as Tree, Row_of-Expression, end_of-Expression}
use Rattle.ls_tree.specs.declared.tree.Expression.{more_of-Expression, Held-Expression-Call-0, None', Some'}
use Rattle.ls_tree.specs.declared.tree.Expression.TheVariants as parsed
use Rattle.ls_tree.specs.PlacedTrees as trees

abbrev pub placed_name : Name → trees.Name
placed_name n = record { text = string_bytes n.text; span = n.span }

abbrev pub call_of : Option trees.Expression → trees.Name → trees.Expressions → Span → trees.Expression
call_of None n es span = trees.Call n es span
call_of (Some target) n es span = trees.CallOn target n es span

abbrev mutual
  pub placed : Tree → trees.Expression
  placed (parsed.Number text span) = trees.Number (string_bytes text) span
  placed (parsed.True span) = trees.True span
  placed (parsed.False span) = trees.False span
  placed (parsed.Null span) = trees.Null span
  placed (parsed.This span) = trees.This span
  placed (parsed.Name n) = trees.Named (placed_name n)
  placed (parsed.Paren' p inner span) = trees.Paren (placed inner) span
  placed (parsed.Unary' op p operand span) = trees.Unary op (placed operand) span
  placed (parsed.Binary' op p left q right span) = trees.Binary op (placed left) (placed right) span
  placed (parsed.Field' p target n span) = trees.Field (placed target) (placed_name n) span
  placed (parsed.Call' target n shape es span) = call_of (placed_held target) (placed_name n) (placed_row es) span
  placed (parsed.Item' p array q index span) = trees.Item (placed array) (placed index) span
  placed (parsed.New' n shape es span) = trees.New (placed_name n) (placed_row es) span
  placed (parsed.NewMarkable' n shape es span) = trees.NewMarkable (placed_name n) (placed_row es) span
  placed (parsed.NewArray' p length span) = trees.NewArray (placed length) span

  pub placed_row : {m : _} → Row_of-Expression m → trees.Expressions
  placed_row end_of-Expression = trees.End
  placed_row (more_of-Expression e rest) = trees.More (placed e) (placed_row rest)

  pub placed_held : Held-Expression-Call-0 → Option trees.Expression
  placed_held None' = None
  placed_held (Some' p e) = Some (placed e)

abbrev pub placed_target : Option (Box Tree) → Option trees.Expression
placed_target None = None
placed_target (Some b) = Some (placed b.value)

abbrev pub placed_all : List Tree → trees.Expressions
placed_all [] = trees.End
placed_all (e ∷ es) = trees.More (placed e) (placed_all es)
