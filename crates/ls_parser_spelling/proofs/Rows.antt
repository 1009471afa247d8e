-- Lists in trees.
use Rattle.std.proofs.Common.{◌≡◌, Option, Some, None, refl, ap, ◌∙◌}
use Rattle.std.specs.Global.{Vec, Box}
use Rattle.ls_lexer.specs.declared.token.Span.{Span}
use Rattle.ls_tree.specs.declared.tree.Name.{Name}
use Rattle.ls_tree.specs.declared.tree.Expression.{Expression as Tree, Row_of-Expression, end_of-Expression}
use Rattle.ls_tree.specs.declared.tree.Expression.{more_of-Expression, items-the_row-Expression}
use Rattle.ls_tree.specs.declared.tree.Expression.{items_hidden-the_row-Expression-0}
use Rattle.ls_tree.specs.declared.tree.Expression.TheVariants as parsed
use Rattle.ls_tree.specs.declared.tree.Expression.TheBlock.{hidden-the_row-Expression-0, back-Expression-Call-0}
use Rattle.ls_tree.specs.Trees as trees
use Rattle.ls_tree.specs.Trees.{Text, Expression, Expressions, MoreExpressions, listed}
use Rattle.ls_tree.specs.Views.{bare, bare_row, bare_held, bare_target, call_of, expressions_of, name_text}

row_is_list : (n : _) (row : Row_of-Expression n) → bare_row row ≡ expressions_of (items-the_row-Expression n row)
row_is_list n end_of-Expression = refl
row_is_list n (more_of-Expression e rest) = ap (MoreExpressions (bare e)) (row_is_list _ rest)

pub row_of_vec : (v : Vec Tree) → bare_row (hidden-the_row-Expression-0 v) ≡ expressions_of v.items
row_of_vec v = row_is_list _ (hidden-the_row-Expression-0 v) ∙ ap expressions_of (items_hidden-the_row-Expression-0 v)

held_is : (o : Option (Box Tree)) → bare_held (back-Expression-Call-0 o) ≡ bare_target o
held_is None = refl
held_is (Some b) = refl

-- a call without places
pub call_bare : (o : Option (Box Tree)) (name : Name) (v : Vec Tree) (span : Span) →
    bare (parsed.Call o name v span) ≡ call_of (bare_target o) (name_text name) (expressions_of v.items)
call_bare o name v span = λ i. call_of (held_is o i) (name_text name) (row_of_vec v i)

-- a making of an object without places
pub new_bare : (name : Name) (v : Vec Tree) (span : Span) →
    bare (parsed.New name v span) ≡ trees.New (name_text name) (expressions_of v.items)
new_bare name v span = ap (trees.New (name_text name)) (row_of_vec v)

-- a making of a markable reference without places
pub new_markable_bare : (name : Name) (v : Vec Tree) (span : Span) →
    bare (parsed.NewMarkable name v span) ≡ trees.NewMarkable (name_text name) (expressions_of v.items)
new_markable_bare name v span = ap (trees.NewMarkable (name_text name)) (row_of_vec v)
