-- Why the functions of the cycle `statements` in src/statements.rt keep their contracts.

use Rattle.std.proofs.Common.{rules, arith, ◌≡◌, ◌+◌, ap, sym, ◌∙◌, map, drop}
use Rattle.ls_types_elaboration.specs.Trees as trees
use Rattle.ls_types_elaboration.specs.Trees.{Items}
use Rattle.ls_types_elaboration.specs.TypedStatements.{items}
use Rattle.ls_types_statements.specs.ScopeViews.{body_of, loops_of, slots_of, scope_of}
use Rattle.ls_types_elaboration.specs.Placed.{placed}
use Rattle.ls_types_elaboration.specs.PlacedStatements.{placed_statement, placed_items, placed_before}
use Rattle.ls_types_statements.proofs.Nodes.{statement_nodes, items_nodes, items_at, nodes_at}
use Rattle.ls_types_statements.proofs.BlockRows.{block_read, try_read, synchronized_read}
use Rattle.ls_types_statements.proofs.statements.+statements.Goals as goal

pub statement-returns-in-Block-clause-found : goal.statement-returns-in-Block-clause-found
statement-returns-in-Block-clause-found t c =
    let e : placed_statement c.args.s.now ≡ trees.Block (placed_items c.in-Block.b.items.items) = block_read
    c.args.s.now c.in-Block.b c.in-Block.is in
    rw e (search rules)

pub statement-returns-in-Try-clause-found : goal.statement-returns-in-Try-clause-found
statement-returns-in-Try-clause-found t c =
    let e : placed_statement c.args.s.now ≡ trees.Try (placed_items c.in-Try.body.items.items)
    (placed_items c.in-Try.finally.items.items) =
    try_read c.args.s.now c.in-Try.body c.in-Try.finally c.in-Try.span c.in-Try.is in
    rw e (search rules)

pub statement-returns-in-Synchronized-clause-found : goal.statement-returns-in-Synchronized-clause-found
statement-returns-in-Synchronized-clause-found t c =
    let e : placed_statement c.args.s.now ≡ trees.Synchronized (placed c.in-Synchronized.target)
    (placed_items c.in-Synchronized.body.items.items) =
    synchronized_read c.args.s.now c.in-Synchronized.target c.in-Synchronized.body c.in-Synchronized.span
    c.in-Synchronized.is in
    rw e (search rules)

pub statement-block-requires : goal.statement-block-requires
statement-block-requires t c =
    let e : placed_statement c.args.s.now ≡ trees.Block (placed_items c.in-Block.b.items.items) = block_read
    c.args.s.now c.in-Block.b c.in-Block.is in
    let n : statement_nodes (placed_statement c.args.s.now) ≡ items_nodes (placed_items c.in-Block.b.items.items) + 1 =
    ap statement_nodes e in
    let m : items_nodes (placed_items c.deref.result.now) ≡ items_nodes (placed_items c.in-Block.b.items.items) = ap
    (λ is. items_nodes (placed_items is)) c.deref.ensures.value in
    (omega (arith, n, m, c.decreases), c.requires)

pub statement-try_finally-requires : goal.statement-try_finally-requires
statement-try_finally-requires t c =
    let e : placed_statement c.args.s.now ≡ trees.Try (placed_items c.in-Try.body.items.items)
    (placed_items c.in-Try.finally.items.items) =
    try_read c.args.s.now c.in-Try.body c.in-Try.finally c.in-Try.span c.in-Try.is in
    let n : statement_nodes (placed_statement c.args.s.now) ≡ items_nodes (placed_items c.in-Try.body.items.items) +
    items_nodes (placed_items c.in-Try.finally.items.items) + 1 = ap statement_nodes e in
    let m : items_nodes (placed_items c.deref-in-Try.result.now) ≡ items_nodes
    (placed_items c.in-Try.body.items.items) = ap (λ is. items_nodes (placed_items is))
    c.deref-in-Try.ensures.value in
    let k : items_nodes (placed_items c.deref-in-Try-2.result.now) ≡ items_nodes
    (placed_items c.in-Try.finally.items.items) = ap (λ is. items_nodes (placed_items is))
    c.deref-in-Try-2.ensures.value in
    (omega (arith, n, m, k, c.decreases), c.requires)

pub statement-synchronized-requires : goal.statement-synchronized-requires
statement-synchronized-requires t c =
    let e : placed_statement c.args.s.now ≡ trees.Synchronized (placed c.in-Synchronized.target)
    (placed_items c.in-Synchronized.body.items.items) =
    synchronized_read c.args.s.now c.in-Synchronized.target c.in-Synchronized.body c.in-Synchronized.span
    c.in-Synchronized.is in
    let n : statement_nodes (placed_statement c.args.s.now) ≡ items_nodes
    (placed_items c.in-Synchronized.body.items.items) + 2 = ap statement_nodes e in
    let m : items_nodes (placed_items c.deref-in-Synchronized.result.now) ≡ items_nodes
    (placed_items c.in-Synchronized.body.items.items) = ap (λ is. items_nodes (placed_items is))
    c.deref-in-Synchronized.ensures.value in
    (omega (arith, n, m, c.decreases), c.requires)

pub all_items-one_item-requires : goal.all_items-one_item-requires
all_items-one_item-requires t c =
    let n = nodes_at c.args.items.now c.loop-item.item-index c.item-item.result c.loop-item-test.true c.item-item.is in
    (omega (arith, n, c.decreases, c.loop-item.invariant.few), c.loop-item.invariant.room)

pub all_items-loop-item-preserved : goal.all_items-loop-item-preserved
all_items-loop-item-preserved t c =
    let n = nodes_at c.args.items.now c.loop-item.item-index c.item-item.result c.loop-item-test.true c.item-item.is in
    let e = items_at c.args.items.now c.loop-item.item-index c.item-item.result c.loop-item-test.true c.item-item.is in
    let rest : Items = placed_items (drop (c.loop-item.item-index + 1) c.args.items.now) in
    let f : items (body_of c.args.round.context) (loops_of c.args.round)
    (scope_of c.loop-item.scope (slots_of c.loop-item.slots)) (placed_before c.item-item.result rest)
    ≡ items (body_of c.args.round.context) (loops_of c.args.round)
    (scope_of c.one_item.new.scope (slots_of c.one_item.new.slots)) rest = search rules in
    let g : items (body_of c.args.round.context) (loops_of c.args.round)
    (scope_of c.loop-item.scope (slots_of c.loop-item.slots))
    (placed_items (drop c.loop-item.item-index c.args.items.now))
    ≡ items (body_of c.args.round.context) (loops_of c.args.round)
    (scope_of c.loop-item.scope (slots_of c.loop-item.slots)) (placed_before c.item-item.result rest) =
    ap (items (body_of c.args.round.context) (loops_of c.args.round)
    (scope_of c.loop-item.scope (slots_of c.loop-item.slots))) e in
    record {
      room = search rules;
      few = omega (arith, n, c.loop-item.invariant.few);
      same = sym f ∙ sym g ∙ c.loop-item.invariant.same;
    }
