-- Blocks in trees with places.
use Rattle.std.proofs.Common.{◌≡◌, refl, ap, ◌∙◌}
use Rattle.std.specs.Global.{Vec}
use Rattle.ls_lexer.specs.declared.token.Span.{Span}
use Rattle.ls_tree.specs.declared.tree.Expression.{Expression}
use Rattle.ls_tree.specs.declared.tree.Block.{Block}
use Rattle.ls_tree.specs.declared.tree.BlockItem.{BlockItem}
use Rattle.ls_tree.specs.declared.tree.BlockItem.TheVariants as rows
use Rattle.ls_tree.specs.declared.tree.Statement.{Row_of-BlockItem, end_of-BlockItem, more_of-BlockItem}
use Rattle.ls_tree.specs.declared.tree.Statement.{items-the_row-BlockItem, items_hidden-the_row-BlockItem-0}
use Rattle.ls_tree.specs.declared.tree.Statement.TheVariants as statements
use Rattle.ls_tree.specs.declared.tree.BlockItem.TheBlock.{hidden-the_row-BlockItem-0}
use Rattle.ls_tree.specs.PlacedTrees as trees
use Rattle.ls_tree.specs.PlacedTrees.{Items, Do, Declare}
use Rattle.ls_tree.specs.Placed.{placed}
use Rattle.ls_tree.specs.PlacedStatements.{placed_statement, placed_declaration, placed_row, placed_items}

row_is_list : (n : _) (row : Row_of-BlockItem n) → placed_row row ≡ placed_items (items-the_row-BlockItem n row)
row_is_list n end_of-BlockItem = refl
row_is_list n (more_of-BlockItem (rows.Statement s) rest) = ap (Do (placed_statement s)) (row_is_list _ rest)
row_is_list n (more_of-BlockItem (rows.Declaration d) rest) = ap (Declare (placed_declaration d)) (row_is_list _ rest)

row_of_items : (v : Vec BlockItem) → placed_row (hidden-the_row-BlockItem-0 v) ≡ placed_items v.items
row_of_items v = row_is_list _ (hidden-the_row-BlockItem-0 v) ∙ ap placed_items (items_hidden-the_row-BlockItem-0 v)

-- a block with places
pub block_placed : (b : Block) → placed_statement (statements.Block b) ≡ trees.Block (placed_items b.items.items)
block_placed b = ap trees.Block (row_of_items b.items)

-- a `synchronized` with places
pub synchronized_placed : (e : Expression) (b : Block) (span : Span) →
    placed_statement (statements.Synchronized e b span) ≡ trees.Synchronized (placed e) (placed_items b.items.items)
synchronized_placed e b span = ap (trees.Synchronized (placed e)) (row_of_items b.items)

-- a `try` with places
pub try_placed : (b f : Block) (span : Span) →
    placed_statement (statements.Try b f span) ≡ trees.Try (placed_items b.items.items) (placed_items f.items.items)
try_placed b f span = λ i. trees.Try (row_of_items b.items i) (row_of_items f.items i)
