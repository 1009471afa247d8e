-- What the command `aim` says.
use Rattle.std.specs.Prelude.{◌≡◌, ℕ, List, Result, Ok, Err}
use Rattle.ls_lexer.specs.declared.fault.TextFault.{TextFault}
use Rattle.ls_tree.specs.Trees.{File as ParsedFile}
use Rattle.ls_parser_spelling.specs.Spells.{TextSpells}
use Rattle.ls_parser_spelling.specs.Files.{IsFileOf}
use Rattle.ls_parser.specs.Comes.{Comes}
use Rattle.ls_parser_tokens.specs.Answers.{Refuses}
use Rattle.ls_checked.specs.CheckedProgram.{Program}
use Rattle.ls_types_elaboration.specs.Elaboration.{ElaboratedFile, elaborated}
use Rattle.ls_types_elaboration.specs.Trees.{File}
use Rattle.ls_types_elaboration.specs.Refused as typing
use Rattle.ls_types_programs.specs.Programs.{IsTextOf}
use Rattle.ls_types_checked.specs.ProgramRefusals.{IsNoProgram}
use Rattle.ls_types_elaboration.specs.declared.rule.CheckFault.{CheckFault}
use Rattle.ls_types_checked.specs.declared.fault.ProgramFault.{ProgramFault}
use Rattle.ls_schedule.specs.Printing.{schedule_text}
use Rattle.ls_schedule.specs.Reading.{schedule_of}
use Rattle.ls_report.specs.Events.{Text}
use Rattle.ls_labels.specs.Names.{Names}
use Rattle.ls_aim.specs.Aims.{aimed, thread_names_of}
use Rattle.ls_aim.specs.declared.fault.AimFault.{AimFault}
use Rattle.ls_faults.specs.Faults.{lifted_aim, lifted_text, lifted_check, lifted_program}
use Rattle.ls_faults.specs.declared.fault.ToolFault.{ToolFault}
use Rattle.ls_commands.specs.Viewed.{names_in}

-- the text of these steps, or the fault
abbrev pub aim_text : Names → Result (List ℕ) AimFault → Result Text ToolFault
aim_text names (Ok steps) = Ok (schedule_text (thread_names_of names) steps)
aim_text names (Err f) = Err (lifted_aim f)

abbrev pub IsAim : Names → Text → Result Text ToolFault → Type 0
IsAim names targets answer = answer ≡ aim_text names (aimed names targets)

-- what is printed of steps reads back as these
abbrev pub IsReadBack : Names → Result (List ℕ) AimFault → Type 0
IsReadBack names (Ok steps) = schedule_of (thread_names_of names) (schedule_text (thread_names_of names) steps) ≡ Ok
    steps
IsReadBack names (Err f) = Unit {0}

-- The program part is a program of the file, and the answer the schedule to which the targets lead, whose text reads
-- back; or it is none.
pub data AimsIn (o : ElaboratedFile) (program targets : Text) : Result Text ToolFault → Type 0 where
  Aims : (p : Program) (answer : Result Text ToolFault) → IsTextOf o p program → IsAim (names_in o p) targets answer →
      IsReadBack (names_in o p) (aimed (names_in o p) targets) → AimsIn o program targets answer
  NoProgram : (f : ProgramFault) → IsNoProgram o program f → AimsIn o program targets (Err (lifted_program f))

-- The class part is a file that keeps every rule, and the answer is that of its program and targets; or it is
-- one that breaks the rule that is named; or it spells none, and the fault is one that may come of it.
pub data AimsTo (classes program targets : Text) : Result Text ToolFault → Type 0 where
  Checks : (file : File) (o : ElaboratedFile) (answer : Result Text ToolFault) →
      IsFileOf classes file → elaborated file ≡ Ok o → AimsIn o program targets answer →
      AimsTo classes program targets answer
  Breaks : (file : File) (f : CheckFault) →
      IsFileOf classes file → typing.Fails f (elaborated file) →
      AimsTo classes program targets (Err (lifted_check f))
  NoFile : (f : TextFault) →
      Refuses f ((file : ParsedFile) → TextSpells file classes → ⊥) → Comes classes f →
      AimsTo classes program targets (Err (lifted_text f))
