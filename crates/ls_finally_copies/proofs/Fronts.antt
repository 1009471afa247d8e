-- Statements before others, with one more after them.
use Rattle.std.proofs.Common.{◌≡◌, ℕ, suc, ◌+◌, ◌<◌, add-one, length, drop, refl, ap, ap₂, sym, ◌∙◌, List, [], ◌∷◌}
use Rattle.std.proofs.Common.{◌++◌}
use Rattle.std.specs.Global.{Vec, Box}
use Rattle.std.specs.Prelude.{slice_index_or}
use Rattle.std.proofs.Math.Seq.{drop-cons}
use Rattle.ls_lowered.specs.declared.tree.Statement as code
use Rattle.ls_lowered.specs.declared.tree.Statement.{Statement, items_hidden-the_row-Statement-0}
use Rattle.ls_lowered.specs.declared.tree.Statement.TheBlock.{hidden-the_row-Statement-0, shape-the_row-Statement-0}
use Rattle.ls_lowered.specs.declared.tree.Statement.TheVariants.{Block'}
use Rattle.ls_lowered.specs.LoweredTree as lowered
use Rattle.ls_lowered.specs.LoweredTree.{Statements, Block, Leavable, Then}
use Rattle.ls_lowered.specs.Plain.{plain_statement, row_statements, in_front, statements_of}
use Rattle.ls_lowered.proofs.Rows.{row_is_list}

-- one statement more in front of the others
pub push_front : (ss : List Statement) (s : Statement) (rest : Statements) →
    in_front (ss ++ s ∷ []) rest ≡ in_front ss (Then (plain_statement s) rest)
push_front [] s rest = refl
push_front (x ∷ ss) s rest = ap (Then (plain_statement x)) (push_front ss s rest)

-- what is left at an index
pub left_at : {A : Type 0} (xs : List A) (i : ℕ) (x : A) →
    i < length xs →
    x ≡ slice_index_or xs i x →
    drop i xs ≡ x ∷ drop (i + 1) xs
left_at xs i x l e = drop-cons xs i x l ∙ ap (λ z. z ∷ drop (suc i) xs) (sym e) ∙
    ap (λ n. x ∷ drop n xs) (sym (add-one i))

-- one more statement of a block is made
pub one_made : (done new : List Statement) (t : Statement) (to : lowered.Statement) (rest : Statements)
    → new ≡ done ++ t ∷ [] → plain_statement t ≡ to → in_front new rest ≡ in_front done (Then to rest)
one_made done new t to rest pushed is =
    ap (λ ss. in_front ss rest) pushed ∙ push_front done t rest ∙
    ap (λ (x : lowered.Statement). in_front done (Then x rest)) is

-- the statements of a block that is read
pub block_read : (v : Vec Statement) → row_statements (hidden-the_row-Statement-0 v) ≡ statements_of v.items
block_read v = row_is_list _ (hidden-the_row-Statement-0 v) ∙ ap statements_of (items_hidden-the_row-Statement-0 v)

pub block_plain : (s : Statement) (v : Vec Statement) (items : List Statement) →
    items ≡ v.items →
    s ≡ Block' (shape-the_row-Statement-0 v) (hidden-the_row-Statement-0 v) →
    plain_statement s ≡ Block (statements_of items)
block_plain s v items e is = ap plain_statement is ∙ ap Block (block_read v ∙ sym (ap statements_of e))

-- a leavable statement that is read
pub leavable_read : (s : Statement) (b : Box Statement) (v : Vec Statement) (body : Statement) (own : List Statement) →
    body ≡ b.value →
    own ≡ v.items →
    s ≡ code.Leavable b v →
    plain_statement s ≡ Leavable (plain_statement body) (statements_of own)
leavable_read s b v body own e f is = ap plain_statement is ∙
    ap₂ Leavable (sym (ap plain_statement e)) (block_read v ∙ sym (ap statements_of f))
