-- Why `is_monitor_of` in src/guard.rt keeps its contract.

use Rattle.ls_checked.specs.Plain.{plain_file}
use Rattle.ls_guarded.proofs.Guards.{monitor}
use Rattle.ls_guarded.proofs.guard.is_monitor_of.Goals as goal

pub returns : goal.returns
returns c = λ yes.
    monitor c.deref.result.now (plain_file c.args.file.now) c.args.class c.args.methods.now
    (c.keeps_monitor.ensures.0 yes)
