-- Why the functions of the cycle `statements` in src/sizes.rt keep their contracts.

use Rattle.std.proofs.Common.{◌≡◌, ap, arith}
use Rattle.ls_lowered.specs.LoweredTree.{Leavable}
use Rattle.ls_lowered.specs.Plain.{plain_statement, statements_of}
use Rattle.ls_emit.specs.Statements.{statement_size}
use Rattle.ls_emit.proofs.Blocks.{leavable_plain}
use Rattle.ls_emit.proofs.sizes.+statements.Goals as goal

pub count_statement-returns-in-Leavable : goal.count_statement-returns-in-Leavable
count_statement-returns-in-Leavable t c =
    let body = c.deref-in-Leavable.result.now in
    let exits = c.deref-in-Leavable-2.result.now in
    let is : plain_statement c.args.s.now ≡ Leavable (plain_statement body) (statements_of exits) =
    leavable_plain c.args.s.now c.in-Leavable.body c.in-Leavable.exits body exits c.deref-in-Leavable.ensures
    c.deref-in-Leavable-2.ensures.value c.in-Leavable.is in
    omega (arith, ap statement_size is)
