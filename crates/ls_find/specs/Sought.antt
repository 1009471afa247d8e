-- What is looked for in a program.
use Rattle.std.specs.Prelude.{◌≡◌, ◌⊎◌, ℕ, true, List, Contains, Some, slice_get}
use Rattle.ls_checked.specs.CheckedTree.{File}
use Rattle.ls_checked.specs.CheckedProgram.{Program}
use Rattle.ls_explore.specs.Rows.{Told}
use Rattle.ls_explore_reports.specs.Verdicts.{HasLegalOrder}
use Rattle.ls_specification.specs.Specification.{Given}
use Rattle.ls_find.specs.Said.{HasUnexplained, IsCutShort, MayWait}
use Rattle.ls_find.specs.Verdicts.{IsGood, IsShown, IsShownFor, NoneTurns}
use Rattle.ls_find.specs.declared.legal.Legality.{Legality}
use Rattle.ls_find.specs.declared.legal.Legality.TheVariants as legality
use Rattle.ls_find.specs.declared.sought.Sought.{Sought}
use Rattle.ls_find.specs.declared.verdict.ProgramVerdict.{ProgramVerdict}
use Rattle.ls_find.specs.declared.verdict.ProgramVerdict.TheVariants as verdicts
use Rattle.ls_find.specs.declared.verdict.Reason.TheVariants as reasons
use Rattle.ls_meaning.specs.Runs.{source_history}
use Rattle.ls_text_laws.specs.Histories.{IsReadable}
use Rattle.ls_verdicts.specs.Verdicts.{IsHistoryOf, IsVerdict}
use Rattle.ls_verdicts.specs.declared.verdicts.Verdict.TheVariants.{Illegal, Legal, NotOneSet, TooManyTrapped}

-- the history of each schedule has a legal order
abbrev pub AllLegal : File → Program → Type 0
AllLegal file program = (schedule : List ℕ) → HasLegalOrder program (source_history file program schedule)

-- all histories are linearizable; no thread waits for ever, if waiting is looked for; and all histories are legal, if
-- those of a set are looked for
pub record EndsWell (sought : Sought) (given : Given) (file : File) (program : Program) : Type 0 where
  pub good : IsGood sought.waiting given file program
  pub legal : sought.set ≡ true → AllLegal file program

-- the history of some schedule can't be judged as one of a set: a call is no set call, or too many are trapped
pub record HasUnjudged (file : File) (program : Program) : Type 0 where
  pub schedule : List ℕ
  pub unjudged : IsVerdict program (source_history file program schedule) NotOneSet ⊎
      IsVerdict program (source_history file program schedule) TooManyTrapped

-- When nothing is said of a program. Its schedules are cut short. Or not all histories of a specification are known,
-- and none that is explains one of the program. Or all histories are linearizable, and a call may wait for ever. Or no
-- call does, and a history can't be judged as one of a set; and no threads turn for ever, if these are looked for. Or
-- all else is well, or can't be judged so, and threads may turn for ever.
pub data IsUnknown (sought : Sought) (states : ℕ) (given : Given) (file : File) (program : Program) : Type 0 where
  Cut : IsCutShort states given file program → IsUnknown sought states given file program
  Unexplained : HasUnexplained given file program → IsUnknown sought states given file program
  Waits : MayWait sought.waiting given file program → IsUnknown sought states given file program
  Unjudged : sought.set ≡ true →
      IsGood sought.waiting given file program →
      HasUnjudged file program →
      (sought.turning ≡ true → NoneTurns given file program) →
      IsUnknown sought states given file program
  Turns : sought.turning ≡ true →
      IsGood sought.waiting given file program →
      (sought.set ≡ true → AllLegal file program ⊎ HasUnjudged file program) →
      IsUnknown sought states given file program

-- and no threads turn for ever in calls that end where calls run one at a time, if these are looked for
pub record IsGoodFor (sought : Sought) (given : Given) (file : File) (program : Program) : Type 0 where
  pub ends : EndsWell sought given file program
  pub turns : sought.turning ≡ true → NoneTurns given file program

-- no threads turn for ever, or they do after the schedule that is shown, if these are looked for
abbrev pub IsTurningVerdict : Sought → Given → File → Program → ProgramVerdict → Type 0
IsTurningVerdict sought given file program verdicts.Good = sought.turning ≡ true → NoneTurns given file program
IsTurningVerdict sought given file program verdicts.Unknown = sought.turning ≡ true
IsTurningVerdict sought given file program (verdicts.Bad reason schedule) =
    IsShown sought reason given file program schedule

-- what is said of a program
abbrev pub IsVerdictFor : Sought → ℕ → Given → File → Program → ProgramVerdict → Type 0
IsVerdictFor sought states given file program verdicts.Good = IsGoodFor sought given file program
IsVerdictFor sought states given file program verdicts.Unknown = IsUnknown sought states given file program
IsVerdictFor sought states given file program (verdicts.Bad reason schedule) =
    IsShown sought reason given file program schedule

-- Each history is legal, or that of the schedule that is shown isn't. Nothing is said only where the schedules are cut
-- short, or a history can't be judged.
abbrev pub IsSetVerdict : ℕ → Given → File → Program → ProgramVerdict → Type 0
IsSetVerdict states given file program verdicts.Good = AllLegal file program
IsSetVerdict states given file program verdicts.Unknown =
    IsCutShort states given file program ⊎ HasUnjudged file program
IsSetVerdict states given file program (verdicts.Bad reason schedule) =
    IsShownFor reasons.Illegal reason given file program schedule

-- the same, if histories of a set are looked for
abbrev pub IsLegalVerdict : Sought → ℕ → Given → File → Program → ProgramVerdict → Type 0
IsLegalVerdict sought states given file program verdicts.Good = sought.set ≡ true → AllLegal file program
IsLegalVerdict sought states given file program verdicts.Unknown =
    (sought.set ≡ true) × (IsCutShort states given file program ⊎ HasUnjudged file program)
IsLegalVerdict sought states given file program (verdicts.Bad reason schedule) =
    IsShown sought reason given file program schedule

-- the history of each row has names
abbrev pub AreNamed : Program → List Told → Type 0
AreNamed program rows = (r : Told) → Contains rows r → IsHistoryOf program r.history

-- that of each schedule has them, and is printed so that it can be read
abbrev pub AllNamed : File → Program → Type 0
AllNamed file program = (schedule : List ℕ) → IsReadable program (source_history file program schedule)

-- what the rows are: each is legal, or the one at a place isn't
abbrev pub IsLegality : Program → List Told → Legality → Type 0
IsLegality program rows legality.AllLegal = (r : Told) → Contains rows r → IsVerdict program r.history Legal
IsLegality program rows (legality.IllegalAt at) =
    (r : Told) × (slice_get rows at ≡ Some r) × IsVerdict program r.history Illegal
IsLegality program rows legality.NotJudged = (r : Told) × Contains rows r ×
    (IsVerdict program r.history NotOneSet ⊎ IsVerdict program r.history TooManyTrapped)
