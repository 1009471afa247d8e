-- Blocks in trees.
use Rattle.std.proofs.Common.{◌≡◌, refl, ap, ◌∙◌}
use Rattle.std.specs.Global.{Vec}
use Rattle.ls_lexer.specs.declared.token.Span.{Span}
use Rattle.ls_tree.specs.declared.tree.Expression.{Expression}
use Rattle.ls_tree.specs.declared.tree.Block.{Block}
use Rattle.ls_tree.specs.declared.tree.BlockItem.{BlockItem}
use Rattle.ls_tree.specs.declared.tree.BlockItem.TheVariants as block_items
use Rattle.ls_tree.specs.declared.tree.Statement.{Row_of-BlockItem, end_of-BlockItem, more_of-BlockItem}
use Rattle.ls_tree.specs.declared.tree.Statement.{items-the_row-BlockItem, items_hidden-the_row-BlockItem-0}
use Rattle.ls_tree.specs.declared.tree.Statement.TheVariants as statements
use Rattle.ls_tree.specs.declared.tree.BlockItem.TheBlock.{hidden-the_row-BlockItem-0}
use Rattle.ls_tree.specs.Trees as trees
use Rattle.ls_tree.specs.Trees.{Piece, Doing, Declaring, collected, put_before}
use Rattle.ls_tree.specs.Views.{bare, bare_statement, bare_declaration, bare_items, items_of, bare_block}

row_is_list : (n : _) (row : Row_of-BlockItem n) → bare_items row ≡ items_of (items-the_row-BlockItem n row)
row_is_list n end_of-BlockItem = refl
row_is_list n (more_of-BlockItem (block_items.Statement s) rest) =
    ap (put_before (Doing (bare_statement s))) (row_is_list _ rest)
row_is_list n (more_of-BlockItem (block_items.Declaration d) rest) =
    ap (put_before (Declaring (bare_declaration d))) (row_is_list _ rest)

pub row_of_items : (v : Vec BlockItem) → bare_items (hidden-the_row-BlockItem-0 v) ≡ items_of v.items
row_of_items v = row_is_list _ (hidden-the_row-BlockItem-0 v) ∙ ap items_of (items_hidden-the_row-BlockItem-0 v)

-- a block without places
pub block_bare : (b : Block) → bare_statement (statements.Block b) ≡ trees.Block (bare_block b)
block_bare b = ap trees.Block (row_of_items b.items)

-- a `synchronized` without places
pub synchronized_bare : (e : Expression) (b : Block) (span : Span) →
    bare_statement (statements.Synchronized e b span) ≡ trees.Synchronized (bare e) (bare_block b)
synchronized_bare e b span = ap (trees.Synchronized (bare e)) (row_of_items b.items)

-- a `try` without places
pub try_bare : (b f : Block) (span : Span) →
    bare_statement (statements.Try b f span) ≡ trees.Try (bare_block b) (bare_block f)
try_bare b f span = λ i. trees.Try (row_of_items b.items i) (row_of_items f.items i)
