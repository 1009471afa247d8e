-- The arguments of a call as a list.
use Rattle.std.proofs.Common.{◌≡◌, refl, ap, ◌∙◌, Option, Some, None}
use Rattle.std.specs.Global.{Vec, Box}
use Rattle.ls_lexer.specs.declared.token.Span.{Span}
use Rattle.ls_tree.specs.declared.tree.Name.{Name}
use Rattle.ls_tree.specs.declared.tree.Expression.{Expression, Row_of-Expression, end_of-Expression}
use Rattle.ls_tree.specs.declared.tree.Expression.{more_of-Expression, items-the_row-Expression}
use Rattle.ls_tree.specs.declared.tree.Expression.{items_hidden-the_row-Expression-0}
use Rattle.ls_tree.specs.declared.tree.Expression as parsed
use Rattle.ls_tree.specs.declared.tree.Expression.TheBlock.{hidden-the_row-Expression-0, back-Expression-Call-0}
use Rattle.ls_types_elaboration.specs.Trees as trees
use Rattle.ls_types_elaboration.specs.Placed.{placed, placed_name, placed_row, placed_all, placed_held, placed_target}
use Rattle.ls_types_elaboration.specs.Placed.{call_of}

row_is_list : (n : _) (row : Row_of-Expression n) → placed_row row ≡ placed_all (items-the_row-Expression n row)
row_is_list n end_of-Expression = refl
row_is_list n (more_of-Expression e rest) = ap (trees.More (placed e)) (row_is_list _ rest)

pub row_read : (v : Vec Expression) → placed_row (hidden-the_row-Expression-0 v) ≡ placed_all v.items
row_read v = row_is_list _ (hidden-the_row-Expression-0 v) ∙ ap placed_all (items_hidden-the_row-Expression-0 v)

target_read : (o : Option (Box Expression)) → placed_held (back-Expression-Call-0 o) ≡ placed_target o
target_read None = refl
target_read (Some b) = refl

-- a call, read from its tree
pub call_read : (e : Expression) (o : Option (Box Expression)) (n : Name) (v : Vec Expression) (span : Span) →
    e ≡ parsed.Call o n v span →
    placed e ≡ call_of (placed_target o) (placed_name n) (placed_all v.items) span
call_read e o n v span is =
    ap placed is ∙ (λ i. call_of (target_read o i) (placed_name n) (row_read v i) span)

-- a making of an object, read from its tree
pub making_read : (e : Expression) (n : Name) (v : Vec Expression) (span : Span) →
    e ≡ parsed.New n v span →
    placed e ≡ trees.New (placed_name n) (placed_all v.items) span
making_read e n v span is = ap placed is ∙ ap (λ (es : trees.Expressions). trees.New (placed_name n) es span)
    (row_read v)

-- a making of a markable reference, read from its tree
pub markable_read : (e : Expression) (n : Name) (v : Vec Expression) (span : Span) →
    e ≡ parsed.NewMarkable n v span →
    placed e ≡ trees.NewMarkable (placed_name n) (placed_all v.items) span
markable_read e n v span is = ap placed is ∙ ap (λ (es : trees.Expressions). trees.NewMarkable (placed_name n) es span)
    (row_read v)
