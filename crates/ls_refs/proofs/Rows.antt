-- The statements of a block as a list.
use Rattle.std.proofs.Common.{◌≡◌, ℕ, suc, ◌+◌, ◌<◌, add-one, length, drop, ap, sym, ◌∙◌, List, ◌∷◌, arith}
use Rattle.std.specs.Global.{Vec}
use Rattle.std.specs.Prelude.{slice_index_or}
use Rattle.std.proofs.Math.Seq.{drop-cons}
use Rattle.ls_checked.specs.CheckedTree as checked
use Rattle.ls_checked.specs.declared.tree.Statement.{Statement, items_hidden-the_row-Statement-0}
use Rattle.ls_checked.specs.declared.tree.Statement.TheBlock.{hidden-the_row-Statement-0}
use Rattle.ls_checked.specs.Plain.{row_statements, statements_of, plain_statement as checked_statement}
use Rattle.ls_checked.proofs.Rows.{row_is_list}
use Rattle.ls_lowered.specs.declared.tree.Statement.{Statement as Tree}
use Rattle.ls_lowered.specs.LoweredTree.{Statements}
use Rattle.ls_lowered.specs.Plain.{plain_statement, in_front}
use Rattle.ls_refs.specs.Temporaries.{statement_temporaries, block_temporaries}
use Rattle.ls_refs.specs.Lowered.{lowered_statement, lowered_block, ahead}

-- those of a block that is read
pub block_read : (v : Vec Statement) → row_statements (hidden-the_row-Statement-0 v) ≡ statements_of v.items
block_read v = row_is_list _ (hidden-the_row-Statement-0 v) ∙ ap statements_of (items_hidden-the_row-Statement-0 v)

-- the statements of a block are lowered so far, and one more
pub one_lowered : (classes : List checked.Class) (lowered new : List Tree) (x : Tree) (next after : ℕ) (s : Statement)
    (items rest : List Statement) →
    ((others : Statements) → in_front new others ≡ in_front lowered (ahead (plain_statement x) others)) →
    items ≡ s ∷ rest → plain_statement x ≡ lowered_statement classes next (checked_statement s) →
    after ≡ next + statement_temporaries (checked_statement s) →
    in_front new (lowered_block classes after (statements_of rest)) ≡ in_front lowered
    (lowered_block classes next (statements_of items))
one_lowered classes lowered new x next after s items rest pushed split is ends =
    pushed (lowered_block classes after (statements_of rest))
    ∙ ap (λ t. in_front lowered (ahead t (lowered_block classes after (statements_of rest)))) is
    ∙ ap (λ n. in_front lowered (ahead (lowered_statement classes next (checked_statement s))
    (lowered_block classes n (statements_of rest)))) ends
    ∙ ap (λ l. in_front lowered (lowered_block classes next (statements_of l))) (sym split)

-- the count of a list, of which one statement more is read
pub one_counted : (next after : ℕ) (s : Statement) (items rest : List Statement) (whole : ℕ) →
    items ≡ s ∷ rest → after ≡ next + statement_temporaries (checked_statement s) →
    next + block_temporaries (statements_of items) ≡ whole → after + block_temporaries (statements_of rest) ≡ whole
one_counted next after s items rest whole split ends h =
    let e : block_temporaries (statements_of items) ≡ statement_temporaries (checked_statement s) + block_temporaries
    (statements_of rest) = ap (λ l. block_temporaries (statements_of l)) split in
    omega (arith, e, ends, h)

-- what is left at an index
pub left_at : (xs : List Statement) (i : ℕ) (x : Statement) →
    i < length xs →
    x ≡ slice_index_or xs i x →
    drop i xs ≡ x ∷ drop (i + 1) xs
left_at xs i x l e = drop-cons xs i x l ∙ ap (λ z. z ∷ drop (suc i) xs) (sym e) ∙
    ap (λ n. x ∷ drop n xs) (sym (add-one i))
