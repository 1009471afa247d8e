-- What the loop `m` of `first_without_monitor` in src/reasons.rt keeps.

use Rattle.std.proofs.Common.{drop}
use Rattle.ls_checked.specs.Plain.{plain_file}
use Rattle.ls_guarded.specs.Marks.{EachOf}
use Rattle.ls_guarded.specs.Reasons.{HasMonitor}
use Rattle.ls_guarded.proofs.reasons.first_without_monitor.Given as goal

abbrev pub invariant-loop-m : goal.invariant-loop-m
invariant-loop-m l =
    EachOf (λ m. HasMonitor (plain_file l.file) m) (drop l.m-index l.methods) →
    EachOf (λ m. HasMonitor (plain_file l.file) m) l.methods
