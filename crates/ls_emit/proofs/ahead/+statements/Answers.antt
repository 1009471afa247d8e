-- Why the functions of the cycle `statements` in src/ahead.rt keep their contracts.

use Rattle.ls_code.specs.Limits.{most_instructions}
use Rattle.std.proofs.Common.{rules, ◌≡◌, ◌+◌, ◌-◌, ◌<◌, ◌≤◌, length, ap, sym, subst, arith}
use Rattle.std.specs.Prelude.{IfOk, OnOk, reverse}
use Rattle.ls_lowered.specs.LoweredTree as lowered
use Rattle.ls_lowered.specs.LoweredTree.{Leavable}
use Rattle.ls_lowered.specs.Plain.{plain_statement, statements_of}
use Rattle.ls_emit.specs.Statements.{statement_size, exits_size}
use Rattle.ls_emit.specs.Ahead.{sizes_ahead}
use Rattle.ls_emit.proofs.Blocks.{leavable_plain}
use Rattle.ls_emit.proofs.Sums.{weight_here, size_before, room_before}
use Rattle.ls_emit.proofs.Weights.{weight}
use Rattle.ls_emit.proofs.ahead.+statements.Goals as goal

pub put_ahead-put_leavable-requires : goal.put_ahead-put_leavable-requires
put_ahead-put_leavable-requires t c =
    let body = c.deref-in-Leavable.result.now in
    let exits = c.deref-in-Leavable-2.result.now in
    let is : plain_statement c.args.s.now ≡ Leavable (plain_statement body) (statements_of exits) =
    leavable_plain c.args.s.now c.in-Leavable.body c.in-Leavable.exits body exits c.deref-in-Leavable.ensures
    c.deref-in-Leavable-2.ensures.value c.in-Leavable.is in
    (omega (arith, ap weight is, c.decreases), omega (arith, ap statement_size is, c.requires))

pub put_ahead-returns-in-Leavable-clause-size : goal.put_ahead-returns-in-Leavable-clause-size
put_ahead-returns-in-Leavable-clause-size t c =
    let body = c.deref-in-Leavable.result.now in
    let exits = c.deref-in-Leavable-2.result.now in
    let is : plain_statement c.args.s.now ≡ Leavable (plain_statement body) (statements_of exits) =
    leavable_plain c.args.s.now c.in-Leavable.body c.in-Leavable.exits body exits c.deref-in-Leavable.ensures
    c.deref-in-Leavable-2.ensures.value c.in-Leavable.is in
    let Counts = λ (s : lowered.Statement). IfOk c.put_leavable.result (λ n. n ≡ statement_size s) in
    subst Counts (sym is) c.put_leavable.ensures.size

pub put_ahead-returns-in-Leavable-clause-ahead : goal.put_ahead-returns-in-Leavable-clause-ahead
put_ahead-returns-in-Leavable-clause-ahead t c =
    let body = c.deref-in-Leavable.result.now in
    let exits = c.deref-in-Leavable-2.result.now in
    let is : plain_statement c.args.s.now ≡ Leavable (plain_statement body) (statements_of exits) =
    leavable_plain c.args.s.now c.in-Leavable.body c.in-Leavable.exits body exits c.deref-in-Leavable.ensures
    c.deref-in-Leavable-2.ensures.value c.in-Leavable.is in
    let Lists = λ (s : lowered.Statement). OnOk c.put_leavable.result
    (reverse c.put_leavable.new.out.items ≡ sizes_ahead s (reverse c.args.out.now.items)) in
    subst Lists (sym is) c.put_leavable.ensures.ahead

pub put_block-put_ahead-requires : goal.put_block-put_ahead-requires
put_block-put_ahead-requires t c =
    let xs = c.args.statements.now in
    let i = c.loop-i.i in
    let s = c.index-statements-i.result in
    let some : 0 < i = search rules in
    let inside : i ≤ length xs = search rules in
    let work = weight_here xs (i - 1) s (omega (arith, some, inside)) c.index-statements-i.is in
    let size = size_before xs i s some inside c.index-statements-i.is in
    (omega (arith, work, c.decreases), omega (arith, size, c.requires))

pub put_block-overflow_add-count : goal.put_block-overflow_add-count
put_block-overflow_add-count t c =
    let xs = c.args.statements.now in
    let i = c.loop-i.i in
    let s = c.index-statements-i.result in
    let some : 0 < i = search rules in
    let inside : i ≤ length xs = search rules in
    let size = size_before xs i s some inside c.index-statements-i.is in
    let count = c.loop-i.invariant.0 in
    let own : c.in_ok-size.size ≡ statement_size (plain_statement s) = search rules in
    let sum : c.loop-i.count + c.in_ok-size.size ≤ most_instructions = omega (arith, size, count, own, c.requires) in
    omega (arith, sum)

pub put_exits-put_ahead-requires : goal.put_exits-put_ahead-requires
put_exits-put_ahead-requires t c =
    let xs = c.args.exits.now in
    let i = c.loop-i.i in
    let s = c.index-exits-i.result in
    let some : 0 < i = search rules in
    let inside : i ≤ length xs = search rules in
    let work = weight_here xs (i - 1) s (omega (arith, some, inside)) c.index-exits-i.is in
    let room = room_before xs i s some inside c.index-exits-i.is in
    (omega (arith, work, c.decreases), omega (arith, room, c.requires))

pub put_exits-overflow_add-count : goal.put_exits-overflow_add-count
put_exits-overflow_add-count t c =
    let xs = c.args.exits.now in
    let i = c.loop-i.i in
    let s = c.index-exits-i.result in
    let some : 0 < i = search rules in
    let inside : i ≤ length xs = search rules in
    let room = room_before xs i s some inside c.index-exits-i.is in
    let own : c.in_ok-size.size ≡ statement_size (plain_statement s) = search rules in
    let sum : 1 + c.in_ok-size.size ≤ most_instructions = omega (arith, room, own, c.requires) in
    omega (arith, sum)

pub put_exits-overflow_add-count-in-loop-i : goal.put_exits-overflow_add-count-in-loop-i
put_exits-overflow_add-count-in-loop-i t c =
    let xs = c.args.exits.now in
    let i = c.loop-i.i in
    let s = c.index-exits-i.result in
    let some : 0 < i = search rules in
    let inside : i ≤ length xs = search rules in
    let room = room_before xs i s some inside c.index-exits-i.is in
    let count = c.loop-i.invariant.0 in
    let own : c.in_ok-size.size ≡ statement_size (plain_statement s) = search rules in
    let sum : c.loop-i.count + (1 + c.in_ok-size.size) ≤ most_instructions = omega (arith, room, count, own, c.requires)
    in
    omega (arith, sum)
