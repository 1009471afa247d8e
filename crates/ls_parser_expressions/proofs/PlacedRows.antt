-- Lists in trees with places.
use Rattle.std.proofs.Common.{◌≡◌, List, [], ◌∷◌, ◌++◌, Option, Some, None, refl, ap, ◌∙◌}
use Rattle.std.specs.Global.{Vec, Box}
use Rattle.ls_lexer.specs.declared.token.Span.{Span}
use Rattle.ls_tree.specs.declared.tree.Name.{Name}
use Rattle.ls_tree.specs.declared.tree.Expression.{Expression as Tree, Row_of-Expression, end_of-Expression}
use Rattle.ls_tree.specs.declared.tree.Expression.{more_of-Expression, items-the_row-Expression}
use Rattle.ls_tree.specs.declared.tree.Expression.{items_hidden-the_row-Expression-0}
use Rattle.ls_tree.specs.declared.tree.Expression.TheVariants as parsed
use Rattle.ls_tree.specs.declared.tree.Expression.TheBlock.{hidden-the_row-Expression-0, back-Expression-Call-0}
use Rattle.ls_tree.specs.PlacedTrees as trees
use Rattle.ls_tree.specs.PlacedTrees.{Expressions, End, More, Expression}
use Rattle.ls_tree.specs.Placed.{placed, placed_row, placed_held, placed_target, placed_all, placed_name, call_of}

row_is_list : (n : _) (row : Row_of-Expression n) → placed_row row ≡ placed_all (items-the_row-Expression n row)
row_is_list n end_of-Expression = refl
row_is_list n (more_of-Expression e rest) = ap (More (placed e)) (row_is_list _ rest)

pub row_of_vec : (v : Vec Tree) → placed_row (hidden-the_row-Expression-0 v) ≡ placed_all v.items
row_of_vec v = row_is_list _ (hidden-the_row-Expression-0 v) ∙ ap placed_all (items_hidden-the_row-Expression-0 v)

held_is : (o : Option (Box Tree)) → placed_held (back-Expression-Call-0 o) ≡ placed_target o
held_is None = refl
held_is (Some b) = refl

-- a call with places
pub call_placed : (o : Option (Box Tree)) (name : Name) (v : Vec Tree) (span : Span) →
    placed (parsed.Call o name v span) ≡ call_of (placed_target o) (placed_name name) (placed_all v.items) span
call_placed o name v span = λ i. call_of (held_is o i) (placed_name name) (row_of_vec v i) span

-- a making of an object with places
pub new_placed : (name : Name) (v : Vec Tree) (span : Span) →
    placed (parsed.New name v span) ≡ trees.New (placed_name name) (placed_all v.items) span
new_placed name v span = ap (λ (es : Expressions). trees.New (placed_name name) es span) (row_of_vec v)

-- a making of a markable reference with places
pub new_markable_placed : (name : Name) (v : Vec Tree) (span : Span) →
    placed (parsed.NewMarkable name v span) ≡ trees.NewMarkable (placed_name name) (placed_all v.items) span
new_markable_placed name v span = ap (λ (es : Expressions). trees.NewMarkable (placed_name name) es span) (row_of_vec v)

-- one more at the end
abbrev pub snoc : Expressions → Expression → Expressions
snoc End e = More e End
snoc (More x es) e = More x (snoc es e)

-- one argument more
pub all_push : (es : List Tree) (e : Tree) → placed_all (es ++ e ∷ []) ≡ snoc (placed_all es) (placed e)
all_push [] e = refl
all_push (x ∷ es) e = ap (More (placed x)) (all_push es e)
