-- Why `is_lock_of` in src/guard.rt keeps its contract.

use Rattle.ls_checked.specs.Plain.{plain_file}
use Rattle.ls_guarded.proofs.Guards.{lock}
use Rattle.ls_guarded.proofs.guard.is_lock_of.Goals as goal

pub returns : goal.returns
returns c = λ yes.
    lock c.in_ok-callees.callees.all.items c.in_ok-callees.callees.own.items c.in_ok-callees.callees.others.items
    (plain_file c.args.file.now) c.args.class c.args.f
    c.args.methods.now (c.keeps_lock.ensures.0 yes)
