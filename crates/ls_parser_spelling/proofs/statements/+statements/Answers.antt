-- Why the functions of the cycle `statements` in src/statements.rt keep their contracts.

use Rattle.std.proofs.Common.{rules, arith, ◌≡◌, ◌+◌, ap, ◌∙◌}
use Rattle.ls_tree.specs.Trees as trees
use Rattle.ls_tree.specs.Views.{bare, bare_statement, items_of}
use Rattle.ls_parser_spelling.proofs.Nodes.{statement_nodes, items_nodes}
use Rattle.ls_parser_spelling.proofs.StatementRows.{block_bare, try_bare, synchronized_bare}
use Rattle.ls_parser_spelling.proofs.statements.+statements.Goals as goal

pub put_statement-returns-in-Block : goal.put_statement-returns-in-Block
put_statement-returns-in-Block t c =
    let e : bare_statement c.args.s.now ≡ trees.Block (items_of c.in-Block.block.items.items) =
    ap bare_statement c.in-Block.is ∙ block_bare c.in-Block.block in
    rw e (search rules)

pub put_statement-put_block-requires : goal.put_statement-put_block-requires
put_statement-put_block-requires t c =
    let e : bare_statement c.args.s.now ≡ trees.Block (items_of c.in-Block.block.items.items) =
    ap bare_statement c.in-Block.is ∙ block_bare c.in-Block.block in
    let n : statement_nodes (bare_statement c.args.s.now) ≡ items_nodes (items_of c.in-Block.block.items.items) + 1 =
    ap statement_nodes e in
    let m : items_nodes (items_of c.deref.result.now) ≡ items_nodes (items_of c.in-Block.block.items.items) =
    ap (λ is. items_nodes (items_of is)) c.deref.ensures.value in
    (omega (arith, n, m, c.decreases), tt)

pub put_statement-returns-in-Try : goal.put_statement-returns-in-Try
put_statement-returns-in-Try t c =
    let e : bare_statement c.args.s.now ≡
    trees.Try (items_of c.in-Try.body.items.items) (items_of c.in-Try.finally.items.items) =
    ap bare_statement c.in-Try.is ∙ try_bare c.in-Try.body c.in-Try.finally c.in-Try.span in
    rw e (search rules)

pub put_statement-put_try-requires : goal.put_statement-put_try-requires
put_statement-put_try-requires t c =
    let e : bare_statement c.args.s.now ≡
    trees.Try (items_of c.in-Try.body.items.items) (items_of c.in-Try.finally.items.items) =
    ap bare_statement c.in-Try.is ∙ try_bare c.in-Try.body c.in-Try.finally c.in-Try.span in
    let n : statement_nodes (bare_statement c.args.s.now) ≡
    items_nodes (items_of c.in-Try.body.items.items) + items_nodes (items_of c.in-Try.finally.items.items) + 1 =
    ap statement_nodes e in
    let m : items_nodes (items_of c.deref-in-Try.result.now) ≡ items_nodes (items_of c.in-Try.body.items.items) =
    ap (λ is. items_nodes (items_of is)) c.deref-in-Try.ensures.value in
    let k : items_nodes (items_of c.deref-in-Try-2.result.now) ≡ items_nodes (items_of c.in-Try.finally.items.items) =
    ap (λ is. items_nodes (items_of is)) c.deref-in-Try-2.ensures.value in
    (omega (arith, n, m, k, c.decreases), tt)

pub put_statement-returns-in-Synchronized : goal.put_statement-returns-in-Synchronized
put_statement-returns-in-Synchronized t c =
    let e : bare_statement c.args.s.now ≡
    trees.Synchronized (bare c.in-Synchronized.target) (items_of c.in-Synchronized.body.items.items) =
    ap bare_statement c.in-Synchronized.is ∙ synchronized_bare c.in-Synchronized.target c.in-Synchronized.body
    c.in-Synchronized.span in
    rw e (search rules)

pub put_statement-put_synchronized-requires : goal.put_statement-put_synchronized-requires
put_statement-put_synchronized-requires t c =
    let e : bare_statement c.args.s.now ≡
    trees.Synchronized (bare c.in-Synchronized.target) (items_of c.in-Synchronized.body.items.items) =
    ap bare_statement c.in-Synchronized.is ∙ synchronized_bare c.in-Synchronized.target c.in-Synchronized.body
    c.in-Synchronized.span in
    let n : statement_nodes (bare_statement c.args.s.now) ≡
    items_nodes (items_of c.in-Synchronized.body.items.items) + 1 = ap statement_nodes e in
    let m : items_nodes (items_of c.deref-in-Synchronized.result.now) ≡
    items_nodes (items_of c.in-Synchronized.body.items.items) =
    ap (λ is. items_nodes (items_of is)) c.deref-in-Synchronized.ensures.value in
    (omega (arith, n, m, c.decreases), tt)
