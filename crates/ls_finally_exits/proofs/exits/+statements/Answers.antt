-- Why the functions of the cycle `statements` in src/exits.rt keep their contracts.

use Rattle.std.proofs.Common.{◌≡◌, ◌+◌, ◌<◌, ◌^◌, ◌∷◌, ◌++◌, append_assoc, drop, IfOk, List, ap, subst, rules, arith}
use Rattle.std.proofs.Common.{◌∙◌}
use Rattle.ls_lowered.specs.declared.tree.Statement.{Statement}
use Rattle.ls_lowered.specs.LoweredTree as lowered
use Rattle.ls_lowered.specs.LoweredTree.{Leavable}
use Rattle.ls_lowered.specs.Plain.{plain_statement, statements_of}
use Rattle.ls_finally_exits.specs.Exits.{Exit, exits, all_exits}
use Rattle.ls_finally_exits.specs.Numbers.{numbers}
use Rattle.ls_finally_exits.specs.PlainExits.{plain_exits}
use Rattle.ls_finally_copies.proofs.Fronts.{left_at, leavable_read}
use Rattle.ls_finally_copies.proofs.Weights.{size, size_at}
use Rattle.ls_finally_exits.proofs.Numbered.{numbers_at}
use Rattle.ls_finally_exits.proofs.exits.+statements.Goals as goal

pub collect_block-collect_exits-requires : goal.collect_block-collect_exits-requires
collect_block-collect_exits-requires t c =
    let xs : List Statement = c.args.statements.now in
    let i = c.loop-s.s-index in
    let split : drop i xs ≡ c.s-item.result ∷ drop (i + 1) xs = left_at xs i c.s-item.result (search rules) c.s-item.is
    in
    let less = size_at xs i c.s-item.result split in
    let low = numbers_at xs i c.s-item.result split in
    (omega (arith, less), omega (arith, low, c.requires))

pub collect_exits-collect_leavable-requires : goal.collect_exits-collect_leavable-requires
collect_exits-collect_leavable-requires t c =
    let body = c.deref-in-Leavable.result.now in
    let own = c.deref-in-Leavable-2.result.now in
    let e : plain_statement c.args.s.now ≡ Leavable (plain_statement body) (statements_of own) = leavable_read
    c.args.s.now c.in-Leavable.body c.in-Leavable.own body own c.deref-in-Leavable.ensures
    c.deref-in-Leavable-2.ensures.value c.in-Leavable.is in
    (omega (arith, ap size e), subst (λ (x : lowered.Statement). c.args.inside + numbers x < 2 ^ 63) e c.requires)

pub collect_exits-returns-in-Leavable : goal.collect_exits-returns-in-Leavable
collect_exits-returns-in-Leavable t c =
    let body = c.deref-in-Leavable.result.now in
    let own = c.deref-in-Leavable-2.result.now in
    let e : plain_statement c.args.s.now ≡ Leavable (plain_statement body) (statements_of own) = leavable_read
    c.args.s.now c.in-Leavable.body c.in-Leavable.own body own c.deref-in-Leavable.ensures
    c.deref-in-Leavable-2.ensures.value c.in-Leavable.is in
    rw e c.collect_leavable.ensures

pub collect_leavable-returns : goal.collect_leavable-returns
collect_leavable-returns t c =
    let body = plain_statement c.args.body.now in
    let own = statements_of c.args.own.now in
    let before : List Exit = plain_exits c.args.out.now.items in
    let others : List Exit = all_exits c.args.inside own in
    let both : plain_exits c.collect_exits.new.out.items ++ others ≡ before ++ exits c.args.inside (Leavable body own) =
    ap (λ (xs : List Exit). xs ++ others) c.in_ok-collect_exits.ensures
    ∙ append_assoc before (exits c.within.result body) others
    ∙ ap (λ n. before ++ (exits n body ++ others)) c.within.ensures in
    subst (λ (xs : List Exit). IfOk c.collect_block.result (λ _. plain_exits c.collect_block.new.out.items ≡ xs)) both
    c.collect_block.ensures
