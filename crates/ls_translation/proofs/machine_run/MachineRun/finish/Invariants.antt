-- What the loop `taken` of `MachineRun::finish` in src/machine_run.rt keeps.

use Rattle.std.proofs.Common.{◌≡◌, ◌-◌}
use Rattle.ls_preservation.specs.Translations.{until_over}
use Rattle.ls_translation.specs.MachineRuns.{gone}
use Rattle.ls_translation.proofs.machine_run.MachineRun.finish.Given as goal

abbrev pub invariant-loop-taken : goal.invariant-loop-taken
invariant-loop-taken l = gone l.self (until_over (l.most - l.taken) l.self.machine) ≡ gone l.initial.self
    (until_over l.most l.initial.self.machine)
