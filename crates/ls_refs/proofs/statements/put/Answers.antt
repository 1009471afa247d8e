-- Why `put` in src/statements.rt keeps its contract.

use Rattle.std.proofs.Common.{ap, ◌∙◌}
use Rattle.ls_lowered.specs.Plain.{plain_statement}
use Rattle.ls_lowered.proofs.Rows.{block_made}
use Rattle.ls_refs.proofs.Ahead.{block_put, one_put, alone}
use Rattle.ls_refs.proofs.statements.put.Goals as goal

pub returns-in_ok-append-in-Block : goal.returns-in_ok-append-in-Block
returns-in_ok-append-in-Block c =
    block_put c.args.out.now.items c.append.new.self.items c.in-Block.inner.items c.args.s
    (ap plain_statement c.in-Block.is ∙ block_made c.in-Block.inner) c.in_ok-append-in-Block.ensures.items

pub returns-in_ok-push-in_default : goal.returns-in_ok-push-in_default
returns-in_ok-push-in_default c = one_put c.args.out.now.items c.push.new.self.items c.args.s
    (alone c.args.s c.in_default.not-Block) (c.in_ok-push-in_default.ensures.items)
