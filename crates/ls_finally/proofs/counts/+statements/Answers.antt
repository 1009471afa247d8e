-- Why the functions of the cycle `statements` in src/counts.rt keep their contracts.

use Rattle.ls_lowered.specs.Limits.{most_locals}
use Rattle.std.proofs.Common.{◌≡◌, ◌≤◌, ap, subst, arith}
use Rattle.std.specs.Option.{SomeIff}
use Rattle.ls_lowered.specs.LoweredTree.{Leavable}
use Rattle.ls_lowered.specs.Plain.{plain_statement, statements_of}
use Rattle.ls_finally.specs.Flat.{tries}
use Rattle.ls_finally_copies.proofs.Fronts.{leavable_read}
use Rattle.ls_finally.proofs.counts.+statements.Goals as goal

pub count_tries-returns-in_ok-count_tries-in-Leavable : goal.count_tries-returns-in_ok-count_tries-in-Leavable
count_tries-returns-in_ok-count_tries-in-Leavable t c =
    let body = c.deref-in-Leavable-2.result.now in
    let own = c.deref-in-Leavable.result.now in
    let e : plain_statement c.args.s.now ≡ Leavable (plain_statement body) (statements_of own) = leavable_read
    c.args.s.now c.in-Leavable.body c.in-Leavable.own body own c.deref-in-Leavable-2.ensures
    c.deref-in-Leavable.ensures.value c.in-Leavable.is in
    subst (λ n. SomeIff c.count_in_block-in-Leavable.result (n ≤ most_locals) n)
    (omega (arith, ap tries e, c.in_ok-count_tries-in-Leavable.ensures)) c.count_in_block-in-Leavable.ensures
