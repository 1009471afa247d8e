-- What the loop `taken` of `MachineRun::act` in src/machine_run.rt keeps.

use Rattle.std.proofs.Common.{◌≡◌, ◌-◌}
use Rattle.ls_preservation.specs.Translations.{until_acts}
use Rattle.ls_translation.specs.MachineRuns.{gone}
use Rattle.ls_translation.proofs.machine_run.MachineRun.act.Given as goal

abbrev pub invariant-loop-taken : goal.invariant-loop-taken
invariant-loop-taken l = gone l.self (until_acts (l.most - l.taken) l.self.machine l.thread) ≡ gone l.initial.self
    (until_acts l.most l.initial.self.machine l.thread)
