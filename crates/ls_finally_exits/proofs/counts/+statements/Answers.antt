-- Why the functions of the cycle `statements` in src/counts.rt keep their contracts.

use Rattle.std.proofs.Common.{◌≡◌, ◌+◌, ◌∷◌, drop, ap, rules, arith, List}
use Rattle.ls_lowered.specs.declared.tree.Statement.{Statement}
use Rattle.ls_lowered.specs.LoweredTree.{Leavable}
use Rattle.ls_lowered.specs.Plain.{plain_statement, statements_of}
use Rattle.ls_finally_copies.proofs.Fronts.{left_at, leavable_read}
use Rattle.ls_finally_copies.proofs.Weights.{size, size_at}
use Rattle.ls_finally_exits.proofs.counts.+statements.Goals as goal

pub put_all_numbers-put_numbers-requires : goal.put_all_numbers-put_numbers-requires
put_all_numbers-put_numbers-requires t c =
    let xs : List Statement = c.args.statements.now in
    let i = c.loop-s.s-index in
    let split : drop i xs ≡ c.s-item.result ∷ drop (i + 1) xs = left_at xs i c.s-item.result (search rules) c.s-item.is
    in
    let less = size_at xs i c.s-item.result split in
    (omega (arith, less), tt)

pub put_numbers-put_leavable-requires : goal.put_numbers-put_leavable-requires
put_numbers-put_leavable-requires t c =
    let body = c.deref-in-Leavable.result.now in
    let own = c.deref-in-Leavable-2.result.now in
    let e : plain_statement c.args.s.now ≡ Leavable (plain_statement body) (statements_of own) = leavable_read
    c.args.s.now c.in-Leavable.body c.in-Leavable.own body own c.deref-in-Leavable.ensures
    c.deref-in-Leavable-2.ensures.value c.in-Leavable.is in
    (omega (arith, ap size e), tt)

pub put_numbers-returns-in-Leavable : goal.put_numbers-returns-in-Leavable
put_numbers-returns-in-Leavable t c =
    let body = c.deref-in-Leavable.result.now in
    let own = c.deref-in-Leavable-2.result.now in
    let e : plain_statement c.args.s.now ≡ Leavable (plain_statement body) (statements_of own) = leavable_read
    c.args.s.now c.in-Leavable.body c.in-Leavable.own body own c.deref-in-Leavable.ensures
    c.deref-in-Leavable-2.ensures.value c.in-Leavable.is in
    rw e c.put_leavable.ensures
