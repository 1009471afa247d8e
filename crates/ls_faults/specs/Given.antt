-- What code answers that may be short of memory.
use Rattle.std.specs.Prelude.{Option, Some, None, Result, String, string_bytes}
use Rattle.ls_answers.specs.Answers as answers
use Rattle.std.specs.Global.{Global}
use Rattle.ls_report.specs.Events.{Text}
use Rattle.ls_faults.specs.declared.fault.ToolFault.{ToolFault}
use Rattle.ls_faults.specs.declared.fault.ToolFault.TheVariants as faults

-- what a fault says of an input; "out of memory" says nothing
abbrev pub meant : ToolFault → Option ToolFault
meant faults.Memory = None
meant f = Some f

-- what is answered, seen by view, is one that may be given, or memory ran out
abbrev pub GivesOne : {X Y : Type 0} → (X → Y) → (Result Y ToolFault → Type 0) → Result X ToolFault → Type 0
GivesOne view May answer = answers.GivesOne meant view May answer

-- the same of a text
abbrev pub GivesText : (Result Text ToolFault → Type 0) → Result (String Global) ToolFault → Type 0
GivesText May answer = GivesOne string_bytes May answer
