-- Why `lock_at` in src/reasons.rt keeps its contract.

use Rattle.std.proofs.Common.{sym}
use Rattle.ls_checked.specs.Plain.{plain_file, plain_method}
use Rattle.ls_guarded.proofs.Holding.{no_lock}
use Rattle.ls_guarded.proofs.reasons.lock_at.Goals as goal

pub returns-in-Some : goal.returns-in-Some
returns-in-Some c = no_lock c.lock_in.result (plain_file c.args.file.now) c.args.m (plain_method c.in-Some.method.now)
    (sym c.in-Some.ensures) c.lock_in.ensures
