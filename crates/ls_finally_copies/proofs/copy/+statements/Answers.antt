-- Why the functions of the cycle `statements` in src/copy.rt keep their contracts.

use Rattle.std.proofs.Common.{◌≡◌, ◌∷◌, ◌+◌, ◌∙◌, sym, ap, ap₂, drop, rules, arith, List}
use Rattle.ls_lowered.specs.declared.tree.Statement.{Statement}
use Rattle.ls_lowered.specs.LoweredTree.{Leavable}
use Rattle.ls_lowered.specs.Plain.{plain_statement, in_front, statements_of}
use Rattle.ls_finally_copies.proofs.Fronts.{left_at, one_made, leavable_read}
use Rattle.ls_finally_copies.proofs.Weights.{size, size_at}
use Rattle.ls_finally_copies.proofs.copy.+statements.Goals as goal

pub copy_block-copy_statement-requires : goal.copy_block-copy_statement-requires
copy_block-copy_statement-requires t c =
    let xs : List Statement = c.args.statements.now in
    let i = c.loop-s.s-index in
    let split : drop i xs ≡ c.s-item.result ∷ drop (i + 1) xs = left_at xs i c.s-item.result (search rules) c.s-item.is
    in
    let less = size_at xs i c.s-item.result split in
    (omega (arith, less), tt)

pub copy_block-loop-s-preserved : goal.copy_block-loop-s-preserved
copy_block-loop-s-preserved t c =
    let xs : List Statement = c.args.statements.now in
    let i = c.loop-s.s-index in
    let split : drop i xs ≡ c.s-item.result ∷ drop (i + 1) xs = left_at xs i c.s-item.result (search rules) c.s-item.is
    in
    one_made c.loop-s.out.items c.put.new.items.items c.in_ok-copy_statement.field-0 (plain_statement c.s-item.result)
    (statements_of (drop (i + 1) xs)) c.in_ok-put.ensures c.in_ok-copy_statement.ensures
    ∙ ap (λ (ys : List Statement). in_front c.loop-s.out.items (statements_of ys)) (sym split)
    ∙ c.loop-s.invariant

pub copy_statement-part_and_exits-requires : goal.copy_statement-part_and_exits-requires
copy_statement-part_and_exits-requires t c =
    let body = c.deref-in-Leavable.result.now in
    let own = c.deref-in-Leavable-2.result.now in
    let e : plain_statement c.args.s.now ≡ Leavable (plain_statement body) (statements_of own) = leavable_read
    c.args.s.now c.in-Leavable.body c.in-Leavable.own body own c.deref-in-Leavable.ensures
    c.deref-in-Leavable-2.ensures.value c.in-Leavable.is in
    (omega (arith, ap size e), tt)

pub copy_statement-returns-in_ok-body-in-Leavable : goal.copy_statement-returns-in_ok-body-in-Leavable
copy_statement-returns-in_ok-body-in-Leavable t c =
    let body = c.deref-in-Leavable.result.now in
    let own = c.deref-in-Leavable-2.result.now in
    let e : plain_statement c.args.s.now ≡ Leavable (plain_statement body) (statements_of own) = leavable_read
    c.args.s.now c.in-Leavable.body c.in-Leavable.own body own c.deref-in-Leavable.ensures
    c.deref-in-Leavable-2.ensures.value c.in-Leavable.is in
    c.leavable_of.ensures ∙ ap₂ Leavable c.in_ok-body-in-Leavable.ensures.body c.in_ok-body-in-Leavable.ensures.own ∙
    sym e
