-- Why `no_lock` in src/reasons.rt keeps its contract.

use Rattle.ls_checked.specs.Plain.{plain_file}
use Rattle.ls_guarded.proofs.Holding.{all_locked}
use Rattle.ls_guarded.proofs.reasons.no_lock.Goals as goal

pub returns-in-None : goal.returns-in-None
returns-in-None c = all_locked (plain_file c.args.file.now) c.args.class c.args.f c.args.methods.now
    c.in-None.ensures.none
