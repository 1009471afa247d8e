-- The items of parsed blocks as lists.
use Rattle.std.proofs.Common.{◌≡◌, refl, ap, ◌∙◌, Option, Some, None}
use Rattle.std.specs.Global.{Vec, Box}
use Rattle.ls_lexer.specs.declared.token.Span.{Span}
use Rattle.ls_tree.specs.declared.tree.Expression.{Expression}
use Rattle.ls_tree.specs.declared.tree.Block.{Block}
use Rattle.ls_tree.specs.declared.tree.BlockItem.{BlockItem}
use Rattle.ls_tree.specs.declared.tree.BlockItem.TheBlock.{hidden-the_row-BlockItem-0, back-Statement-If-2}
use Rattle.ls_tree.specs.declared.tree.Statement.{Statement, Row_of-BlockItem, end_of-BlockItem, more_of-BlockItem}
use Rattle.ls_tree.specs.declared.tree.Statement.{items-the_row-BlockItem, items_hidden-the_row-BlockItem-0}
use Rattle.ls_tree.specs.declared.tree.Statement as statements
use Rattle.ls_types_elaboration.specs.Trees as trees
use Rattle.ls_types_elaboration.specs.Placed.{placed}
use Rattle.ls_types_elaboration.specs.PlacedStatements.{placed_statement, placed_before, placed_row, placed_items}
use Rattle.ls_types_elaboration.specs.PlacedStatements.{placed_held, placed_other, if_of}

row_is_list : (n : _) (row : Row_of-BlockItem n) → placed_row row ≡ placed_items (items-the_row-BlockItem n row)
row_is_list n end_of-BlockItem = refl
row_is_list n (more_of-BlockItem i rest) = ap (placed_before i) (row_is_list _ rest)

row_read : (v : Vec BlockItem) → placed_row (hidden-the_row-BlockItem-0 v) ≡ placed_items v.items
row_read v = row_is_list _ (hidden-the_row-BlockItem-0 v) ∙ ap placed_items (items_hidden-the_row-BlockItem-0 v)

other_read : (o : Option (Box Statement)) → placed_held (back-Statement-If-2 o) ≡ placed_other o
other_read None = refl
other_read (Some b) = refl

-- a block, read from its tree
pub block_read : (s : Statement) (b : Block) →
    s ≡ statements.Block b →
    placed_statement s ≡ trees.Block (placed_items b.items.items)
block_read s b is = ap placed_statement is ∙ ap trees.Block (row_read b.items)

pub if_read : (s : Statement) (c : Expression) (a : Box Statement) (o : Option (Box Statement)) (span : Span) →
    s ≡ statements.If c a o span →
    placed_statement s ≡ if_of (placed c) (placed_statement a.value) (placed_other o)
if_read s c a o span is = ap placed_statement is ∙ ap (if_of (placed c) (placed_statement a.value)) (other_read o)

-- a `try`, read from its tree
pub try_read : (s : Statement) (b f : Block) (span : Span) →
    s ≡ statements.Try b f span →
    placed_statement s ≡ trees.Try (placed_items b.items.items) (placed_items f.items.items)
try_read s b f span is = ap placed_statement is ∙ (λ i. trees.Try (row_read b.items i) (row_read f.items i))

-- a `synchronized`, read from its tree
pub synchronized_read : (s : Statement) (e : Expression) (b : Block) (span : Span) →
    s ≡ statements.Synchronized e b span →
    placed_statement s ≡ trees.Synchronized (placed e) (placed_items b.items.items)
synchronized_read s e b span is = ap placed_statement is ∙ ap (trees.Synchronized (placed e)) (row_read b.items)
