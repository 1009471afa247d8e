-- Answers that may be given.
use Rattle.std.proofs.Common.{ℕ, List, Result, Ok, Err}
use Rattle.std.specs.Prelude.{String, string_bytes}
use Rattle.std.specs.Global.{Global}
use Rattle.ls_schedule.specs.Answers.{Fails}
use Rattle.ls_schedule.specs.declared.fault.ScheduleFault.{ScheduleFault}
use Rattle.ls_schedule.specs.declared.fault.ScheduleFault.TheVariants as schedule
use Rattle.ls_report.specs.Events.{Text}
use Rattle.ls_faults.specs.Faults.{lifted_schedule}
use Rattle.ls_faults.specs.Given.{GivesText, GivesOne}
use Rattle.ls_faults.specs.declared.fault.ToolFault.{ToolFault}
use Rattle.ls_faults.specs.declared.fault.ToolFault.TheVariants as fault

abbrev pub Failed : ToolFault → Result (String Global) ToolFault
Failed f = Err f

abbrev pub FailedSteps : ToolFault → Result (List ℕ) ToolFault
FailedSteps f = Err f

-- a fault that may be answered is one that is given, want of memory too
pub fails : (May : Result Text ToolFault → Type 0) (f : ToolFault) → May (Err f) → GivesText May (Failed f)
fails May fault.Memory h = tt
fails May (fault.Text f) h = h
fails May (fault.Check f) h = h
fails May (fault.Program f) h = h
fails May (fault.Build f) h = h
fails May (fault.Schedule f) h = h
fails May (fault.Translation f) h = h
fails May (fault.Live f) h = h
fails May (fault.Turns f) h = h
fails May (fault.Batch f) h = h
fails May (fault.Explore f) h = h
fails May (fault.Class f) h = h
fails May fault.BadNumbers h = h
fails May fault.BadOptions h = h
fails May (fault.BadEntry at) h = h
fails May (fault.Specification f) h = h
fails May (fault.UnlikeSpecification at) h = h
fails May (fault.LacksMethod span) h = h
fails May (fault.Aim f) h = h
fails May (fault.History f) h = h
fails May (fault.Order f) h = h
fails May (fault.Tally f) h = h
fails May fault.BadCells h = h
fails May fault.WrongParts h = h
fails May fault.TooManyTrapped h = h
fails May fault.NotText h = h
fails May fault.ReadFailed h = h
fails May fault.WriteFailed h = h

-- the same of steps
pub fails_steps : (May : Result (List ℕ) ToolFault → Type 0) (f : ToolFault) →
    May (Err f) →
    GivesOne (λ steps. steps) May (FailedSteps f)
fails_steps May fault.Memory h = tt
fails_steps May (fault.Text f) h = h
fails_steps May (fault.Check f) h = h
fails_steps May (fault.Program f) h = h
fails_steps May (fault.Build f) h = h
fails_steps May (fault.Schedule f) h = h
fails_steps May (fault.Translation f) h = h
fails_steps May (fault.Live f) h = h
fails_steps May (fault.Turns f) h = h
fails_steps May (fault.Batch f) h = h
fails_steps May (fault.Explore f) h = h
fails_steps May (fault.Class f) h = h
fails_steps May fault.BadNumbers h = h
fails_steps May fault.BadOptions h = h
fails_steps May (fault.BadEntry at) h = h
fails_steps May (fault.Specification f) h = h
fails_steps May (fault.UnlikeSpecification at) h = h
fails_steps May (fault.LacksMethod span) h = h
fails_steps May (fault.Aim f) h = h
fails_steps May (fault.History f) h = h
fails_steps May (fault.Order f) h = h
fails_steps May (fault.Tally f) h = h
fails_steps May fault.BadCells h = h
fails_steps May fault.WrongParts h = h
fails_steps May fault.TooManyTrapped h = h
fails_steps May fault.NotText h = h
fails_steps May fault.ReadFailed h = h
fails_steps May fault.WriteFailed h = h

-- a fault that is given for steps is one that may be given for a text
pub passed_on : (May : Result (List ℕ) ToolFault → Type 0) (May' : Result Text ToolFault → Type 0) (f : ToolFault) →
    (May (Err f) → May' (Err f)) →
    GivesOne (λ steps. steps) May (FailedSteps f) → GivesText May' (Failed f)
passed_on May May' fault.Memory g h = tt
passed_on May May' (fault.Text f) g h = g h
passed_on May May' (fault.Check f) g h = g h
passed_on May May' (fault.Program f) g h = g h
passed_on May May' (fault.Build f) g h = g h
passed_on May May' (fault.Schedule f) g h = g h
passed_on May May' (fault.Translation f) g h = g h
passed_on May May' (fault.Live f) g h = g h
passed_on May May' (fault.Turns f) g h = g h
passed_on May May' (fault.Batch f) g h = g h
passed_on May May' (fault.Explore f) g h = g h
passed_on May May' (fault.Class f) g h = g h
passed_on May May' fault.BadNumbers g h = g h
passed_on May May' fault.BadOptions g h = g h
passed_on May May' (fault.BadEntry at) g h = g h
passed_on May May' (fault.Specification f) g h = g h
passed_on May May' (fault.UnlikeSpecification at) g h = g h
passed_on May May' (fault.LacksMethod span) g h = g h
passed_on May May' (fault.Aim f) g h = g h
passed_on May May' (fault.History f) g h = g h
passed_on May May' (fault.Order f) g h = g h
passed_on May May' (fault.Tally f) g h = g h
passed_on May May' fault.BadCells g h = g h
passed_on May May' fault.WrongParts g h = g h
passed_on May May' fault.TooManyTrapped g h = g h
passed_on May May' fault.NotText g h = g h
passed_on May May' fault.ReadFailed g h = g h
passed_on May May' fault.WriteFailed g h = g h

-- an answer that may be given may be given under a wider claim
pub wider : (May May' : Result Text ToolFault → Type 0) (r : Result (String Global) ToolFault) →
    ((a : Result Text ToolFault) → May a → May' a) →
    GivesText May r →
    GivesText May' r
wider May May' (Ok t) h g = h (Ok (string_bytes t)) g
wider May May' (Err fault.Memory) h g = tt
wider May May' (Err (fault.Text f)) h g = h (Err (fault.Text f)) g
wider May May' (Err (fault.Check f)) h g = h (Err (fault.Check f)) g
wider May May' (Err (fault.Program f)) h g = h (Err (fault.Program f)) g
wider May May' (Err (fault.Build f)) h g = h (Err (fault.Build f)) g
wider May May' (Err (fault.Schedule f)) h g = h (Err (fault.Schedule f)) g
wider May May' (Err (fault.Translation f)) h g = h (Err (fault.Translation f)) g
wider May May' (Err (fault.Live f)) h g = h (Err (fault.Live f)) g
wider May May' (Err (fault.Turns f)) h g = h (Err (fault.Turns f)) g
wider May May' (Err (fault.Batch f)) h g = h (Err (fault.Batch f)) g
wider May May' (Err (fault.Explore f)) h g = h (Err (fault.Explore f)) g
wider May May' (Err (fault.Class f)) h g = h (Err (fault.Class f)) g
wider May May' (Err fault.BadNumbers) h g = h (Err fault.BadNumbers) g
wider May May' (Err fault.BadOptions) h g = h (Err fault.BadOptions) g
wider May May' (Err (fault.BadEntry at)) h g = h (Err (fault.BadEntry at)) g
wider May May' (Err (fault.Specification f)) h g = h (Err (fault.Specification f)) g
wider May May' (Err (fault.UnlikeSpecification at)) h g = h (Err (fault.UnlikeSpecification at)) g
wider May May' (Err (fault.LacksMethod span)) h g = h (Err (fault.LacksMethod span)) g
wider May May' (Err (fault.Aim f)) h g = h (Err (fault.Aim f)) g
wider May May' (Err (fault.History f)) h g = h (Err (fault.History f)) g
wider May May' (Err (fault.Order f)) h g = h (Err (fault.Order f)) g
wider May May' (Err (fault.Tally f)) h g = h (Err (fault.Tally f)) g
wider May May' (Err fault.BadCells) h g = h (Err fault.BadCells) g
wider May May' (Err fault.WrongParts) h g = h (Err fault.WrongParts) g
wider May May' (Err fault.TooManyTrapped) h g = h (Err fault.TooManyTrapped) g
wider May May' (Err fault.NotText) h g = h (Err fault.NotText) g
wider May May' (Err fault.ReadFailed) h g = h (Err fault.ReadFailed) g
wider May May' (Err fault.WriteFailed) h g = h (Err fault.WriteFailed) g

-- where the schedule isn't read
pub unread : (May : Result (List ℕ) ScheduleFault → Result Text ToolFault → Type 0) →
    ((f : ScheduleFault) → May (Err f) (Err (lifted_schedule f))) →
    (read : Result (List ℕ) ScheduleFault) (f : ScheduleFault) → Fails f read →
    GivesText (May read) (Failed (lifted_schedule f))
unread May may read schedule.Memory r = tt
unread May may read (schedule.BadItem at) r = rw r (may (schedule.BadItem at))
unread May may read (schedule.UnknownThread at) r = rw r (may (schedule.UnknownThread at))
unread May may read schedule.TooManySteps r = rw r (may schedule.TooManySteps)
