-- Why the functions of the cycle `statements` in src/needs.rt keep their contracts.

use Rattle.std.proofs.Common.{◌≡◌, ap, arith}
use Rattle.ls_lowered.specs.LoweredTree.{Block, Leavable}
use Rattle.ls_lowered.specs.Plain.{plain_statement, statements_of}
use Rattle.ls_emit.specs.Needs.{statement_need}
use Rattle.ls_emit.specs.Statements.{statement_size}
use Rattle.ls_emit.proofs.Blocks.{block_plain, leavable_plain}
use Rattle.ls_emit.proofs.Weights.{weight, exits_hold}
use Rattle.ls_emit.proofs.needs.+statements.Goals as goal

pub statement_need-statements_need-requires : goal.statement_need-statements_need-requires
statement_need-statements_need-requires t c =
    let items = c.deref.result.now in
    let is : plain_statement c.args.s.now ≡ Block (statements_of items) = block_plain c.args.s.now c.in-Block.statements
    items c.deref.ensures.value c.in-Block.is in
    (omega (arith, ap weight is, c.decreases), omega (arith, ap statement_size is))

pub statement_need-statements_need-requires-in-Leavable : goal.statement_need-statements_need-requires-in-Leavable
statement_need-statements_need-requires-in-Leavable t c =
    let body = c.deref-in-Leavable.result.now in
    let exits = c.deref-in-Leavable-2.result.now in
    let is : plain_statement c.args.s.now ≡ Leavable (plain_statement body) (statements_of exits) =
    leavable_plain c.args.s.now c.in-Leavable.body c.in-Leavable.exits body exits c.deref-in-Leavable.ensures
    c.deref-in-Leavable-2.ensures.value c.in-Leavable.is in
    (omega (arith, ap weight is, c.decreases), omega (arith, ap statement_size is, exits_hold (statements_of exits)))

pub statement_need-returns-in-Leavable-clause-need : goal.statement_need-returns-in-Leavable-clause-need
statement_need-returns-in-Leavable-clause-need t c =
    let body = c.deref-in-Leavable.result.now in
    let exits = c.deref-in-Leavable-2.result.now in
    let is : plain_statement c.args.s.now ≡ Leavable (plain_statement body) (statements_of exits) =
    leavable_plain c.args.s.now c.in-Leavable.body c.in-Leavable.exits body exits c.deref-in-Leavable.ensures
    c.deref-in-Leavable-2.ensures.value c.in-Leavable.is in
    omega (arith, ap statement_need is)

pub statement_need-returns-in-Leavable-clause-few : goal.statement_need-returns-in-Leavable-clause-few
statement_need-returns-in-Leavable-clause-few t c =
    let body = c.deref-in-Leavable.result.now in
    let exits = c.deref-in-Leavable-2.result.now in
    let is : plain_statement c.args.s.now ≡ Leavable (plain_statement body) (statements_of exits) =
    leavable_plain c.args.s.now c.in-Leavable.body c.in-Leavable.exits body exits c.deref-in-Leavable.ensures
    c.deref-in-Leavable-2.ensures.value c.in-Leavable.is in
    omega (arith, ap statement_size is, exits_hold (statements_of exits))
