-- The statements of a block, and the exits of a leavable statement, as a list.
use Rattle.std.proofs.Common.{◌≡◌, refl, ap, ◌∙◌}
use Rattle.std.specs.Global.{Vec}
use Rattle.ls_lowered.specs.LoweredTree.{Statement as Tree, Block, Leavable, Then}
use Rattle.ls_lowered.specs.declared.tree.Statement.{Statement, Row_of-Statement, end_of-Statement, more_of-Statement}
use Rattle.ls_lowered.specs.declared.tree.Statement.{items-the_row-Statement, items_hidden-the_row-Statement-0}
use Rattle.ls_lowered.specs.declared.tree.Statement.TheBlock.{hidden-the_row-Statement-0}
use Rattle.ls_lowered.specs.Plain.{plain_statement, row_statements, statements_of}

-- the statements of a row are those of its list
pub row_is_list : (n : _) (row : Row_of-Statement n) →
    row_statements row ≡ statements_of (items-the_row-Statement n row)
row_is_list n end_of-Statement = refl
row_is_list n (more_of-Statement s rest) = ap (Then (plain_statement s)) (row_is_list _ rest)

-- statements that are made, and those that are read: of a block, or the exits of a leavable statement
pub statements_made : (v : Vec Statement) → row_statements (hidden-the_row-Statement-0 v) ≡ statements_of v.items
statements_made v = row_is_list _ (hidden-the_row-Statement-0 v) ∙ ap statements_of (items_hidden-the_row-Statement-0 v)

-- a block of a row
pub block_made : (v : Vec Statement) →
    Block (row_statements (hidden-the_row-Statement-0 v)) ≡ Block (statements_of v.items)
block_made v = ap Block (statements_made v)

-- a leavable statement whose exits are a row
pub leavable_made : (body : Tree) (v : Vec Statement) →
    Leavable body (row_statements (hidden-the_row-Statement-0 v)) ≡ Leavable body (statements_of v.items)
leavable_made body v = ap (Leavable body) (statements_made v)
