-- Why `leavable` in src/statements.rt keeps its contract.

use Rattle.std.proofs.Common.{ap, ◌∙◌}
use Rattle.ls_lowered.specs.LoweredTree.{Leavable}
use Rattle.ls_lowered.specs.Plain.{plain_statement, statements_of}
use Rattle.ls_lowered.proofs.Rows.{leavable_made}
use Rattle.ls_refs.proofs.statements.leavable.Goals as goal

pub returns : goal.returns
returns c = leavable_made (plain_statement c.args.body.value) c.new.result ∙
    ap (λ exits. Leavable (plain_statement c.args.body.value) (statements_of exits)) c.new.ensures.items
