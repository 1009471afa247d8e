-- The statements of a block, and the exits of a leavable statement, as lists.
use Rattle.std.proofs.Common.{◌≡◌, ◌∙◌, ap, sym, List}
use Rattle.std.specs.Global.{Box, Vec}
use Rattle.ls_lowered.specs.LoweredTree.{Block, Leavable}
use Rattle.ls_lowered.specs.declared.tree.Statement.{Statement, items_hidden-the_row-Statement-0}
use Rattle.ls_lowered.specs.declared.tree.Statement as form
use Rattle.ls_lowered.specs.declared.tree.Statement.TheBlock.{hidden-the_row-Statement-0, shape-the_row-Statement-0}
use Rattle.ls_lowered.specs.declared.tree.Statement.TheVariants.{Block'}
use Rattle.ls_lowered.specs.Plain.{plain_statement, row_statements, statements_of}
use Rattle.ls_lowered.proofs.Rows.{row_is_list}

-- the statements of a block that is read
pub block_read : (v : Vec Statement) → row_statements (hidden-the_row-Statement-0 v) ≡ statements_of v.items
block_read v = row_is_list _ (hidden-the_row-Statement-0 v) ∙ ap statements_of (items_hidden-the_row-Statement-0 v)

-- a block that is read
pub block_plain : (s : Statement) (v : Vec Statement) (items : List Statement) →
    items ≡ v.items →
    s ≡ Block' (shape-the_row-Statement-0 v) (hidden-the_row-Statement-0 v) →
    plain_statement s ≡ Block (statements_of items)
block_plain s v items e is = ap plain_statement is ∙ ap Block (block_read v ∙ sym (ap statements_of e))

-- a leavable statement that is read
pub leavable_plain : (s : Statement) (b : Box Statement) (v : Vec Statement) (body : Statement) (exits : List Statement)
    →
    body ≡ b.value →
    exits ≡ v.items →
    s ≡ form.Leavable b v →
    plain_statement s ≡ Leavable (plain_statement body) (statements_of exits)
leavable_plain s b v body exits x y is =
    ap plain_statement is ∙ ap (Leavable (plain_statement b.value)) (block_read v ∙ sym (ap statements_of y)) ∙
    ap (λ z. Leavable (plain_statement z) (statements_of exits)) (sym x)
