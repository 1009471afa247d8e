-- Which schedules have the fewest context switches.
use Rattle.std.specs.Prelude.{ℕ, false, true, List}
use Rattle.ls_checked.specs.CheckedTree.{File}
use Rattle.ls_checked.specs.CheckedProgram.{Program}
use Rattle.ls_fewest_switches.specs.Switches.{HasFewest}
use Rattle.ls_source_judge.specs.Judged.{IsSimplestUnlike}
use Rattle.ls_specification.specs.Specification.{Given, given_file, given_program}
use Rattle.ls_find.specs.declared.verdict.Reason.{Reason}
use Rattle.ls_find.specs.declared.verdict.Reason.TheVariants as reasons

-- No schedule with which one is compared that is bad for a reason has fewer context switches. One whose history isn't
-- linearizable is compared with all of these. One after which threads wait, or whose history is illegal, is compared
-- with those that have its history, and after which threads wait. One after which they turn is compared with none.
abbrev pub IsFewest : Reason → Given → File → Program → List ℕ → Type 0
IsFewest reasons.NotLinearizable given file program schedule =
    IsSimplestUnlike (given_file given file) (given_program given program) file program schedule
IsFewest reasons.Waits given file program schedule = HasFewest true file program schedule
IsFewest reasons.Illegal given file program schedule = HasFewest false file program schedule
IsFewest reasons.Turns given file program schedule = ⊥
