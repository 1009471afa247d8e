-- The statements of a block as a list.
use Rattle.std.proofs.Common.{◌≡◌, refl, ap, ◌∙◌, List, [], ◌∷◌, map}
use Rattle.std.specs.Global.{Vec}
use Rattle.ls_checked.specs.CheckedTree as checked
use Rattle.ls_checked.specs.declared.tree.Statement.{Statement, items_hidden-the_row-Statement-0}
use Rattle.ls_checked.specs.declared.tree.Statement.TheBlock.{hidden-the_row-Statement-0}
use Rattle.ls_checked.specs.Plain.{plain_statement, row_statements, statements_of}
use Rattle.ls_checked.proofs.Rows as checked_rows
use Rattle.ls_types_elaboration.specs.TypedStatements.{sequence}

in_sequence : (ss : List Statement) → statements_of ss ≡ sequence (map plain_statement ss)
in_sequence [] = refl
in_sequence (s ∷ ss) = ap (checked.Then (plain_statement s)) (in_sequence ss)

-- a block of a row of statements
pub block_made : (v : Vec Statement) →
    checked.Block (row_statements (hidden-the_row-Statement-0 v)) ≡ checked.Block
    (sequence (map plain_statement v.items))
block_made v = checked_rows.block_made v ∙ ap checked.Block (in_sequence v.items)

-- the statements of a row
pub block_read : (v : Vec Statement) →
    row_statements (hidden-the_row-Statement-0 v) ≡ sequence (map plain_statement v.items)
block_read v = checked_rows.row_is_list _ (hidden-the_row-Statement-0 v) ∙
    ap statements_of (items_hidden-the_row-Statement-0 v) ∙ in_sequence v.items
