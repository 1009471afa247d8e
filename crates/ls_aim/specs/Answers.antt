-- What the functions answer.
use Rattle.std.specs.Prelude.{Option, Some, None, Result}
use Rattle.ls_answers.specs.Answers as answers
use Rattle.ls_schedule.specs.declared.fault.ScheduleFault.{ScheduleFault}
use Rattle.ls_schedule.specs.declared.fault.ScheduleFault.TheVariants as schedule
use Rattle.ls_aim.specs.declared.fault.AimFault.{AimFault}
use Rattle.ls_aim.specs.declared.fault.AimFault.TheVariants as fault

abbrev pub lifted : ScheduleFault → AimFault
lifted schedule.Memory = fault.Memory
lifted f = fault.Schedule f

-- what a fault says of targets; "out of memory" says nothing
abbrev pub meant : AimFault → Option AimFault
meant fault.Memory = None
meant f = Some f

-- what a function returned, seen by view, is what the definition says, unless memory ran out
abbrev pub Fails : {Y : Type 0} → AimFault → Result Y AimFault → Type 0
Fails f said = answers.Refuses (meant f) said

abbrev pub Gives : {X Y : Type 0} → (X → Y) → Result X AimFault → Result Y AimFault → Type 0
Gives view result said = answers.Gives meant view result said
