-- Histories that are printed are read again.
use Rattle.std.specs.Prelude.{List, Result, Ok, Err}
use Rattle.ls_report.specs.Events.{Event, Text}
use Rattle.ls_report.specs.Reading.{Says}
use Rattle.ls_faults.specs.declared.fault.ToolFault.{ToolFault}

-- the text is the lines of a history, and `read_history` answers that for it
abbrev pub IsHistoryText : Text → Type 0
IsHistoryText text = (events : List Event) × Says text events

-- where a text is answered, it is a history's
abbrev pub ReadsBack : Result Text ToolFault → Type 0
ReadsBack (Ok text) = IsHistoryText text
ReadsBack (Err f) = Unit {0}
