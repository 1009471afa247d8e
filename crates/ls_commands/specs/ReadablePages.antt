-- Histories that are printed of runs can be read.
use Rattle.std.specs.Prelude.{ℕ, List}
use Rattle.ls_checked.specs.CheckedProgram.{Program}
use Rattle.ls_types_elaboration.specs.Elaboration.{ElaboratedFile}
use Rattle.ls_types_programs.specs.Programs.{IsTextOf}
use Rattle.ls_report.specs.Events.{Text}
use Rattle.ls_labels.specs.Names.{Names}
use Rattle.ls_faults.specs.ReadBack.{IsHistoryText}
use Rattle.ls_commands.specs.Viewed.{names_in}
use Rattle.ls_page.specs.Data.{history_text}

abbrev pub HistoriesRead : Names → Type 0
HistoriesRead names = (steps : List ℕ) → IsHistoryText (history_text names steps)

-- the same holds of each program of a file
abbrev pub ProgramsRead : ElaboratedFile → Type 0
ProgramsRead o = (p : Program) (text : Text) → IsTextOf o p text → HistoriesRead (names_in o p)
