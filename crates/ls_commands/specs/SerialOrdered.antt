-- What the command `order` says of a history of a program.
use Rattle.std.specs.Prelude.{◌≡◌, ℕ, List, Result, Ok, Err}
use Rattle.ls_checked.specs.CheckedProgram.{Program}
use Rattle.ls_events.specs.declared.event.Event.{Event as RunEvent}
use Rattle.ls_lexer.specs.declared.fault.TextFault.{TextFault}
use Rattle.ls_tree.specs.Trees.{File as ParsedFile}
use Rattle.ls_parser_spelling.specs.Spells.{TextSpells}
use Rattle.ls_parser_spelling.specs.Files.{IsFileOf}
use Rattle.ls_parser.specs.Comes.{Comes}
use Rattle.ls_parser_tokens.specs.Answers.{Refuses}
use Rattle.ls_types_elaboration.specs.Elaboration.{ElaboratedFile, elaborated}
use Rattle.ls_types_elaboration.specs.Trees.{File}
use Rattle.ls_types_elaboration.specs.Refused as typing
use Rattle.ls_types_elaboration.specs.declared.rule.CheckFault.{CheckFault}
use Rattle.ls_types_programs.specs.Programs.{IsTextOf}
use Rattle.ls_types_checked.specs.ProgramRefusals.{IsNoProgram}
use Rattle.ls_types_checked.specs.declared.fault.ProgramFault.{ProgramFault}
use Rattle.ls_report.specs.Events.{Event, Text}
use Rattle.ls_report.specs.Reading.{BreaksAt, Says}
use Rattle.ls_report.specs.declared.fault.HistoryFault.TheVariants as history_faults
use Rattle.ls_serial_orders.specs.Named.{AreNamed, IsFirstForeign}
use Rattle.ls_serial_orders.specs.Telling.{Tells}
use Rattle.ls_faults.specs.Faults.{lifted_check, lifted_program, lifted_text}
use Rattle.ls_faults.specs.declared.fault.ToolFault.{ToolFault}
use Rattle.ls_faults.specs.declared.fault.ToolFault.TheVariants as faults
use Rattle.ls_commands.specs.Check.{with_feed}

-- The history part is a history of the program, and the answer what is told of it; or the first event is named that is
-- none of the program; or the part breaks at a place.
pub data OrdersOf (o : ElaboratedFile) (p : Program) (history : Text) : Result Text ToolFault → Type 0 where
  Told : (events : List Event) (run : List RunEvent) (text : Text) →
      Says (with_feed history) events →
      AreNamed p run events →
      Tells o.file p run events text →
      OrdersOf o p history (Ok text)
  OtherProgram : (events : List Event) (at : ℕ) →
      Says (with_feed history) events →
      IsFirstForeign p events at →
      OrdersOf o p history (Err (faults.History (history_faults.BadHistory at)))
  NoHistory : (at : ℕ) →
      BreaksAt (with_feed history) at →
      OrdersOf o p history (Err (faults.History (history_faults.BadHistory at)))

-- the program part is a program of the file, and the answer that of its history; or it is none
pub data OrdersIn (o : ElaboratedFile) (program history : Text) : Result Text ToolFault → Type 0 where
  Ran : (p : Program) (answer : Result Text ToolFault) →
      IsTextOf o p program →
      OrdersOf o p history answer →
      OrdersIn o program history answer
  NoProgram : (f : ProgramFault) → IsNoProgram o program f → OrdersIn o program history (Err (lifted_program f))

-- The class part is a file that keeps every rule, and the answer is that of its program and history; or it is one that
-- breaks the rule that is named; or it spells none, and the fault is one that may come of it.
pub data OrdersSerially (classes program history : Text) : Result Text ToolFault → Type 0 where
  Checks : (file : File) (o : ElaboratedFile) (answer : Result Text ToolFault) →
      IsFileOf classes file →
      elaborated file ≡ Ok o →
      OrdersIn o program history answer →
      OrdersSerially classes program history answer
  Breaks : (file : File) (f : CheckFault) →
      IsFileOf classes file → typing.Fails f (elaborated file) →
      OrdersSerially classes program history (Err (lifted_check f))
  NoFile : (f : TextFault) →
      Refuses f ((file : ParsedFile) → TextSpells file classes → ⊥) → Comes classes f →
      OrdersSerially classes program history (Err (lifted_text f))
