-- If a schedule of a program is printed and read, it is the same schedule.
use Rattle.ls_events.specs.Limits.{most_steps}
use Rattle.std.specs.Prelude.{◌≡◌, ◌<◌, ◌≤◌, ℕ, List, length, Ok, All}
use Rattle.ls_checked.specs.PlainProgram.{plain_program}
use Rattle.ls_checked.specs.declared.program.Program.{Program}
use Rattle.ls_types_elaboration.specs.Trees.{Text}
use Rattle.ls_types_elaboration.specs.Elaboration.{ElaboratedFile}
use Rattle.ls_types_programs.specs.Programs.{IsTextOf}
use Rattle.ls_schedule.specs.Printing.{schedule_text}
use Rattle.ls_schedule.specs.Reading.{schedule_of, thread_names}
use Rattle.ls_schedule.specs.RoundTrip.{AreThreadNames}

-- at most 1,000,000 steps, each of a thread that exists
pub record IsScheduleOf (program : Program) (steps : List ℕ) : Type 0 where
  pub there : All (λ t. t < length (thread_names program)) steps
  pub short : length steps ≤ most_steps

-- the names of a program text
abbrev pub NamesAreRead : Type 0
NamesAreRead = (o : ElaboratedFile) (text : Text) (program : Program) → IsTextOf o (plain_program program) text →
    AreThreadNames (thread_names program)

abbrev pub SchedulesReadBack : Type 0
SchedulesReadBack =
    (o : ElaboratedFile) (text : Text) (program : Program) (steps : List ℕ) → IsTextOf o (plain_program program) text →
    IsScheduleOf program steps
    → schedule_of (thread_names program) (schedule_text (thread_names program) steps) ≡ Ok steps

-- if a text is read, it is a schedule of the program's threads
abbrev pub WhatIsReadIsASchedule : Type 0
WhatIsReadIsASchedule =
    (program : Program) (said : Text) (steps : List ℕ) → schedule_of (thread_names program) said ≡ Ok steps →
    IsScheduleOf program steps

-- what is read is read again from what is printed of it
abbrev pub IsReadAgain : Type 0
IsReadAgain =
    (o : ElaboratedFile) (text said : Text) (program : Program) (steps : List ℕ) →
    IsTextOf o (plain_program program) text
    → schedule_of (thread_names program) said ≡ Ok steps → schedule_of (thread_names program)
    (schedule_text (thread_names program) steps) ≡ Ok steps
