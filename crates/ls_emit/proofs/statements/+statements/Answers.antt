-- Why the functions of the cycle `statements` in src/statements.rt keep their contracts.

use Rattle.ls_code.specs.Limits.{most_instructions}
use Rattle.std.proofs.Common.{◌≡◌, ◌+◌, ◌≤◌, ◌++◌, ap, sym, arith, subst}
use Rattle.std.specs.Prelude.{OnOk}
use Rattle.ls_lowered.specs.LoweredTree as lowered
use Rattle.ls_lowered.specs.LoweredTree.{Block, Leavable}
use Rattle.ls_lowered.specs.Plain.{plain_statement, statements_of}
use Rattle.ls_emit.specs.Statements.{statement_size, statements_size, exits_size, statement_code, statement_rows}
use Rattle.ls_emit.specs.Ahead.{AreAhead, AreAheadOfBlock, left_by}
use Rattle.ls_emit.specs.Small.{IsSmallStatement, AreSmallStatements}
use Rattle.ls_emit.specs.Targets.{targets_of}
use Rattle.ls_emit.proofs.Blocks.{block_plain, leavable_plain}
use Rattle.ls_emit.proofs.Weights.{weight}
use Rattle.ls_emit.proofs.statements.+statements.Goals as goal

pub emit_statement-emit_block-requires : goal.emit_statement-emit_block-requires
emit_statement-emit_block-requires t c =
    let block : plain_statement c.args.s.now ≡ Block (statements_of c.deref.result.now) = block_plain c.args.s.now
    c.in-Block.statements c.deref.result.now c.deref.ensures.value c.in-Block.is in
    let same = ap statement_size block in
    let work = ap weight block in
    let room : c.args.at.place + statements_size (statements_of c.deref.result.now) ≤ most_instructions = omega
    (arith, same, c.requires.ends, c.requires.room) in
    let small : AreSmallStatements (statements_of c.deref.result.now) = subst IsSmallStatement block c.requires.small in
    let sized : AreAheadOfBlock (statements_of c.deref.result.now) c.args.out.now.sizes.now = subst
    (λ s. AreAhead s c.args.out.now.sizes.now) block c.requires.sized in
    (omega (arith, work, c.decreases), (room, (small, sized)))

pub emit_statement-emit_leavable-requires : goal.emit_statement-emit_leavable-requires
emit_statement-emit_leavable-requires t c =
    let body = c.deref-in-Leavable.result.now in
    let exits = c.deref-in-Leavable-2.result.now in
    let is : plain_statement c.args.s.now ≡ Leavable (plain_statement body) (statements_of exits) =
    leavable_plain c.args.s.now c.in-Leavable.body c.in-Leavable.exits body exits c.deref-in-Leavable.ensures
    c.deref-in-Leavable-2.ensures.value c.in-Leavable.is in
    let work = ap weight is in
    let ends : c.args.at.end ≡ c.args.at.place + (statement_size (plain_statement body) + exits_size
    (statements_of exits)) = omega (arith, ap statement_size is, c.requires.ends) in
    let small = subst IsSmallStatement is c.requires.small in
    let sized = subst (λ s. AreAhead s c.args.out.now.sizes.now) is c.requires.sized in
    (omega (arith, work, c.decreases), (ends, (c.requires.room, ((small.0, small.1), sized))))

pub emit_statement-returns-in-Leavable-clause-code : goal.emit_statement-returns-in-Leavable-clause-code
emit_statement-returns-in-Leavable-clause-code t c =
    let body = c.deref-in-Leavable.result.now in
    let exits = c.deref-in-Leavable-2.result.now in
    let is : plain_statement c.args.s.now ≡ Leavable (plain_statement body) (statements_of exits) =
    leavable_plain c.args.s.now c.in-Leavable.body c.in-Leavable.exits body exits c.deref-in-Leavable.ensures
    c.deref-in-Leavable-2.ensures.value c.in-Leavable.is in
    let Puts = λ (s : lowered.Statement). OnOk c.emit_leavable.result
    (c.emit_leavable.new.out.instructions.items ≡ c.args.out.now.instructions.items ++
    statement_code (targets_of c.args.around.now) c.args.at.place s) in
    subst Puts (sym is) c.emit_leavable.ensures.code

pub emit_statement-returns-in-Leavable-clause-rows : goal.emit_statement-returns-in-Leavable-clause-rows
emit_statement-returns-in-Leavable-clause-rows t c =
    let body = c.deref-in-Leavable.result.now in
    let exits = c.deref-in-Leavable-2.result.now in
    let is : plain_statement c.args.s.now ≡ Leavable (plain_statement body) (statements_of exits) =
    leavable_plain c.args.s.now c.in-Leavable.body c.in-Leavable.exits body exits c.deref-in-Leavable.ensures
    c.deref-in-Leavable-2.ensures.value c.in-Leavable.is in
    let Puts = λ (s : lowered.Statement). OnOk c.emit_leavable.result
    (c.emit_leavable.new.out.rows.items ≡ c.args.out.now.rows.items ++ statement_rows c.args.at.place s) in
    subst Puts (sym is) c.emit_leavable.ensures.rows

pub emit_statement-returns-in-Leavable-clause-left : goal.emit_statement-returns-in-Leavable-clause-left
emit_statement-returns-in-Leavable-clause-left t c =
    let body = c.deref-in-Leavable.result.now in
    let exits = c.deref-in-Leavable-2.result.now in
    let is : plain_statement c.args.s.now ≡ Leavable (plain_statement body) (statements_of exits) =
    leavable_plain c.args.s.now c.in-Leavable.body c.in-Leavable.exits body exits c.deref-in-Leavable.ensures
    c.deref-in-Leavable-2.ensures.value c.in-Leavable.is in
    let Leaves = λ (s : lowered.Statement). OnOk c.emit_leavable.result
    (c.emit_leavable.new.out.sizes.now ≡ left_by s c.args.out.now.sizes.now) in
    subst Leaves (sym is) c.emit_leavable.ensures.left
